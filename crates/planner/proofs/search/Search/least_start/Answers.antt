use Rattle.std.proofs.Common.{◌≡◌, ℕ, Some, length, sym, subst, refl, arith}
use Rattle.std.specs.List.{slice_get}
use Rattle.std.proofs.lemmas.Slice.Zip.{zip_turn, zip_end}
use Rattle.std.proofs.lemmas.Option.{slice_get_read, get_or_from_slice_get, slice_get_within}
use Rattle.slots.proofs.Jumping.{below_jump}
use Rattle.tasks.specs.Modes.{number}
use Rattle.planner.specs.Placing.{Blocks, Clear}
use Rattle.planner.specs.Rows.{no_row}
use Rattle.planner.proofs.search.Search.least_start.Goals as goal

pub push-further-requires : goal.push-further-requires
push-further-requires c =
    let search = c.args.self.now in
    let (inside, _, row, divisor) = zip_turn search.placed.now search.divisors c.loop-row.yielded c.into_iter-row-iterator.result c.loop-row.row-iterator c.next.new.self _ (cc) (cc) c.loop-row.yielded_by _ c.in-Some.is c.next.ensures.steps in
    let here : slice_get search.placed.now (length c.loop-row.yielded) ≡ Some c.in-Some.row.now = slice_get_read search.placed.now _ _ c.in-Some.row.now refl inside (row _) in
    let fit = search.range.within (number c.args.mode) c.requires.belongs in
    record {
      belongs = c.requires.belongs;
      fits = omega (arith, c.budget.ensures.value);
      sound = search.sound _ _ here;
      divides = rw (divisor 0) (search.divide _ _ here);
    }

pub starts-preserved : goal.starts-preserved
starts-preserved c =
    let search = c.args.self.now in
    let (inside, _, row, _) = zip_turn search.placed.now search.divisors c.loop-row.yielded c.into_iter-row-iterator.result c.loop-row.row-iterator c.next.new.self _ (cc) (cc) c.loop-row.yielded_by _ c.in-Some.is c.next.ensures.steps in
    let here : slice_get search.placed.now (length c.loop-row.yielded) ≡ Some c.in-Some.row.now = slice_get_read search.placed.now _ _ c.in-Some.row.now refl inside (row _) in
    let pushes = c.push-further.ensures.pushes in
    let P : ℕ → Type 0 = λ j. Clear c.args.controller (number c.args.mode) search.placed.now search.task.now j → ⊥ in (
      omega (arith, pushes.near, search.range.deadline, search.range.period),
      below_jump P c.starts.next c.push-further.result c.starts.invariant.1
          (λ j a b clear. clear.1 _ _ here (pushes.passed j a b clear.0)),
    )

pub returns-in-starts : goal.returns-in-starts
returns-in-starts c =
    let search = c.args.self.now in
    let mode = number c.args.mode in
    let end = zip_end search.placed.now search.divisors c.loop-row.yielded c.into_iter-row-iterator.result c.loop-row.row-iterator c.next.new.self _ (cc) (cc) c.loop-row.yielded_by c.in-None.is c.next.ensures.steps in
    let fit = search.range.within mode c.requires.belongs in
    record {
      least = (
        (
          omega (arith, c.budget.ensures.value),
          λ i row e blocks.
              let inside = slice_get_within search.placed.now i row e in
              c.loop-row.invariant i (omega (arith, end, search.short))
              (subst (Blocks c.args.controller mode search.task.now c.starts.next) (sym (get_or_from_slice_get search.placed.now i row no_row e)) blocks),
        ),
        c.starts.invariant.1,
      );
    }

pub returns : goal.returns
returns c =
    let fit = c.args.self.now.range.within (number c.args.mode) c.requires.belongs in
    record { least = λ s clear. c.starts.invariant.1 s (omega (arith, clear.0, c.budget.ensures.value)) clear }
