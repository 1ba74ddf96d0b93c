-- What a policy means, and what every policy must keep.
use Rattle.std.specs.Prelude.{◌≡◌, ℕ, List}
use Rattle.policies.specs.Orders.{Arrangement}
use Rattle.tasks.specs.Counts.{Few}

-- What the policies of a kind mean.
pub record Means (P : Type 0) : Type 0 where
  -- how many controllers there are
  pub count : P → ℕ
  -- the controllers in the order in which they are tried for a task of this level
  pub order : P → ℕ → List ℕ
  -- the policy after it is told that a task of this level went to this controller
  pub told : P → ℕ → ℕ → P

-- What the policies of a kind must keep.
pub record Lawful {P : Type 0} (means : Means P) : Type 0 where
  -- there are one to eight controllers
  pub few : (p : P) → Few (means.count p)
  -- each order holds each controller exactly once
  pub arranged : (p : P) (level : ℕ) → Arrangement (means.count p) (means.order p level)
  -- telling keeps the count
  pub kept : (p : P) (level controller : ℕ) → means.count (means.told p level controller) ≡ means.count p
