use Rattle.std.proofs.Common.{sym}
use Rattle.dkg_reading.proofs.Numbers.{found, only, plain}
use Rattle.dkg_reading.proofs.Spelled.{no_number, number_value}
use Rattle.dkg_reading.proofs.fields.number.Goals as goal

pub returns-then-is_plain-clause-found : goal.returns-then-is_plain-clause-found
returns-then-is_plain-clause-found c = found c.args.text.now c.parsed.result (c.is_plain.ensures.0 c.if-is_plain.true) c.parsed.ensures

pub returns-then-is_plain-clause-only : goal.returns-then-is_plain-clause-only
returns-then-is_plain-clause-only c = only c.args.text.now c.parsed.result c.parsed.ensures

pub returns-else-is_plain-clause-only : goal.returns-else-is_plain-clause-only
returns-else-is_plain-clause-only c = λ n small is.
    let is_true = c.is_plain.ensures.1 (plain c.args.text.now n small is) in
    let is_false = c.if-is_plain.false in
    absurd (cc)

pub returns-then-is_plain-clause-value : goal.returns-then-is_plain-clause-value
returns-then-is_plain-clause-value c =
    let is_found = found c.args.text.now c.parsed.result (c.is_plain.ensures.0 c.if-is_plain.true) c.parsed.ensures in
    number_value c.args.text.now c.parsed.result c.parsed.ensures is_found (only c.args.text.now c.parsed.result c.parsed.ensures)

pub returns-else-is_plain-clause-value : goal.returns-else-is_plain-clause-value
returns-else-is_plain-clause-value c = sym (no_number c.args.text.now (λ n small is.
    let is_true = c.is_plain.ensures.1 (plain c.args.text.now n small is) in
    let is_false = c.if-is_plain.false in
    cc))
