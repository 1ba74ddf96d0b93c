use Rattle.std.proofs.Common.{◌∙◌, rules}
use Rattle.digits.specs.Digits.{byte_of}
use Rattle.digits.proofs.Printed.{read_back}
use Rattle.digits.proofs.print_byte.Goals as goal

pub returns : goal.returns
returns c =
    let high = c.print_digit.ensures.value in
    let low = c.print_digit-2.ensures.value in
    record { value = search rules; reads_back = (λ i. byte_of (high i) (low i)) ∙ read_back c.args.b (search rules) }
