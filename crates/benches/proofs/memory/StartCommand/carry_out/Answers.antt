use Rattle.std.proofs.Common.{◌≡◌, ◌+◌, length, get_or, set, sym, subst, ap, ◌∙◌, rules, tests, ⊎_elim}
use Rattle.std.proofs.lemmas.Bool.{cases_lt}
use Rattle.benches.specs.Commands.{start_answer, start_on}
use Rattle.benches.specs.Registers.{Commanded, decoded, start_bytes, made, shown_by}
use Rattle.benches.proofs.Bytes.{shown_at}
use Rattle.benches.proofs.Made.{start_commanded, start_refused}
use Rattle.benches.proofs.Released.{shown_released, start_released}
use Rattle.benches.proofs.memory.StartCommand.carry_out.Goals as goal

pub returns : goal.returns
returns c =
    let bytes = c.args.lock.now.bytes.now in
    let before = c.args.lock.now.before in
    let i = c.args.controller in
    let byte = get_or bytes (i + 1) 0 in
    let call = c.on_controller in
    let s =
    ⊎_elim
    (λ l. let (result, post, commanded) = call.ensures.some l in
    let is : result ≡ made (start_on (decoded byte) i c.args.self.row) (c.args.self.row + 1) = search (rules, tests) in
    start_commanded bytes i _ _ c.args.self.row byte l (shown_at bytes i l) (subst (λ r. Commanded bytes i r call.result call.new.lock.bytes.now) is commanded))
    (λ g. start_refused bytes i _ _ c.args.self.row g (call.ensures.none g))
    (cases_lt i (length (shown_by bytes)))
    in
    record {
      same = call.ensures.same;
      before = call.ensures.before;
      long = call.ensures.long;
      answer = s.0 ∙ ap (λ m. start_answer m i c.args.self.row) (sym (shown_released bytes before));
      after = ap (λ xs. set xs 0 call.new.lock.before) s.1 ∙ ap (set (start_bytes bytes i c.args.self.row) 0) call.ensures.before ∙ start_released bytes before i c.args.self.row;
    }
