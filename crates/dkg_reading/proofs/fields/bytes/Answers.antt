use Rattle.std.proofs.Common.{sym, ◌∙◌, ap, Some}
use Rattle.dkg_text.proofs.Hex.{dash, digits, never, found_in, only_in}
use Rattle.dkg_reading.proofs.Spelled.{dash_bytes, decoded_bytes_in, no_bytes}
use Rattle.dkg_reading.proofs.fields.bytes.Goals as goal

pub returns-then-is_dash-clause-only : goal.returns-then-is_dash-clause-only
returns-then-is_dash-clause-only c = λ bytes fit spelled.
    let none = dash c.args.text.now bytes (c.is_dash.ensures.0 c.if-is_dash.true) spelled in
    ap Some (c.new-then-is_dash.ensures ∙ c.new.ensures.items ∙ sym none)

pub returns-then-is_digits-clause-found : goal.returns-then-is_digits-clause-found
returns-then-is_digits-clause-found c =
    found_in c.args.text.now c.decoded.result (c.is_digits.ensures.0 c.if-is_digits.true) c.decoded.ensures

pub returns-then-is_digits-clause-only : goal.returns-then-is_digits-clause-only
returns-then-is_digits-clause-only c = λ bytes fit spelled.
    let parts = digits c.args.text.now bytes fit (λ is. never c.is_dash.result (c.is_dash.ensures.1 is) c.if-is_dash.false) spelled in
    only_in c.args.text.now c.decoded.result bytes c.decoded.ensures parts.2

pub returns-clause-only : goal.returns-clause-only
returns-clause-only c = λ bytes fit spelled.
    let parts = digits c.args.text.now bytes fit (λ is. never c.is_dash.result (c.is_dash.ensures.1 is) c.if-is_dash.false) spelled in
    absurd (never c.is_digits.result (c.is_digits.ensures.1 (parts.0, parts.1)) c.if-is_digits.false)

pub returns-then-is_dash-clause-value : goal.returns-then-is_dash-clause-value
returns-then-is_dash-clause-value c =
    ap Some (c.new-then-is_dash.ensures ∙ c.new.ensures.items) ∙ sym (dash_bytes c.args.text.now (c.is_dash.ensures.0 c.if-is_dash.true))

pub returns-then-is_digits-clause-value : goal.returns-then-is_digits-clause-value
returns-then-is_digits-clause-value c =
    decoded_bytes_in c.args.text.now c.decoded.result (c.is_digits.ensures.0 c.if-is_digits.true) c.decoded.ensures

pub returns-clause-value : goal.returns-clause-value
returns-clause-value c =
    sym (no_bytes c.args.text.now (λ is. never c.is_dash.result (c.is_dash.ensures.1 is) c.if-is_dash.false)
    (λ is. never c.is_digits.result (c.is_digits.ensures.1 is) c.if-is_digits.false))
