use Rattle.std.proofs.Common.{arith}
use Rattle.std.proofs.lemmas.Str.Parse.{digit_at}
use Rattle.dkg_reading.proofs.Parsing.{all_more, all_read, one_more, too_large}
use Rattle.dkg_reading.proofs.fields.parsed.Goals as goal

pub returns-then-not-is_ascii_digit : goal.returns-then-not-is_ascii_digit
returns-then-not-is_ascii_digit c = λ number. absurd (omega (arith, digit_at c.args.text.now c.loop-byte.byte-index number.0.1 c.loop-byte-test.true, c.if-not-is_ascii_digit.ensures.cases))

pub returns-in_err-checked_mul : goal.returns-in_err-checked_mul
returns-in_err-checked_mul c =
    rw c.from_residual.ensures (too_large c.args.text.now c.loop-byte.byte-index c.loop-byte.number c.loop-byte-test.true c.loop-byte.invariant.2 c.if-not-is_ascii_digit.ensures.cases
    (omega (arith, c.in_err-checked_mul.ensures)))

pub returns-in_err-number : goal.returns-in_err-number
returns-in_err-number c =
    rw c.from_residual-in_err-number.ensures (too_large c.args.text.now c.loop-byte.byte-index c.loop-byte.number c.loop-byte-test.true c.loop-byte.invariant.2 c.if-not-is_ascii_digit.ensures.cases
    (omega (arith, c.in_err-number.ensures, c.in_ok-checked_mul.ensures, c.from.ensures)))

pub loop-byte-preserved : goal.loop-byte-preserved
loop-byte-preserved c =
    let digit = c.if-not-is_ascii_digit.ensures.cases in (
      omega (arith, c.in_ok-number.ensures),
      all_more c.args.text.now c.loop-byte.byte-index c.loop-byte-test.true c.loop-byte.invariant.1 digit,
      omega (arith, one_more c.args.text.now c.loop-byte.byte-index c.loop-byte.number c.loop-byte-test.true c.loop-byte.invariant.2 digit, c.in_ok-number.ensures, c.in_ok-checked_mul.ensures, c.from.ensures),
    )

pub returns : goal.returns
returns c =
    let l = c.loop-byte in
    all_read c.args.text.now l.byte-index l.number (omega (arith, c.loop-byte-test.false)) c.requires l.invariant.0 l.invariant.1 l.invariant.2
