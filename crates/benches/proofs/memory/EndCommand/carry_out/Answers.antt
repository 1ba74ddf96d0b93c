use Rattle.std.proofs.Common.{◌≡◌, ◌+◌, length, get_or, set, sym, subst, ap, ◌∙◌, rules, tests, ⊎_elim}
use Rattle.std.proofs.lemmas.Bool.{cases_lt}
use Rattle.benches.specs.Commands.{end_answer, end_on}
use Rattle.benches.specs.Registers.{Commanded, decoded, end_bytes, made, shown_by}
use Rattle.benches.proofs.Bytes.{shown_at}
use Rattle.benches.proofs.Made.{end_commanded, end_refused}
use Rattle.benches.proofs.Released.{shown_released, end_released}
use Rattle.benches.proofs.memory.EndCommand.carry_out.Goals as goal

pub returns : goal.returns
returns c =
    let bytes = c.args.lock.now.bytes.now in
    let before = c.args.lock.now.before in
    let i = c.args.controller in
    let byte = get_or bytes (i + 1) 0 in
    let call = c.on_controller in
    let s =
    ⊎_elim
    (λ l. let (result, post, commanded) = call.ensures.some l in
    let is : result ≡ made (end_on (decoded byte) i) 0 = search (rules, tests) in
    end_commanded bytes i _ _ byte l (shown_at bytes i l) (subst (λ r. Commanded bytes i r call.result call.new.lock.bytes.now) is commanded))
    (λ g. end_refused bytes i _ _ g (call.ensures.none g))
    (cases_lt i (length (shown_by bytes)))
    in
    record {
      same = call.ensures.same;
      before = call.ensures.before;
      long = call.ensures.long;
      answer = s.0 ∙ ap (λ m. end_answer m i) (sym (shown_released bytes before));
      after = ap (λ xs. set xs 0 call.new.lock.before) s.1 ∙ ap (set (end_bytes bytes i) 0) call.ensures.before ∙ end_released bytes before i;
    }
