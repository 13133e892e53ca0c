use Rattle.std.proofs.Common.{◌≡◌, ◌-◌, ℕ, List, Err, length, subst, arith}
use Rattle.dkg_reading.specs.declared.stop.Stop.{Stop}
use Rattle.dkg_reading.specs.Grammar.{reading_of}
use Rattle.dkg_reading.specs.Lines.{FailsText}
use Rattle.dkg_reading.proofs.Places.{place_of}
use Rattle.dkg_reading.proofs.read.read_script.Goals as goal

pub returns-in-Err-Line-clause-place : goal.returns-in-Err-Line-clause-place
returns-in-Err-Line-clause-place c =
    let left = c.in-Err-Line.left in
    let addressed = c.args.addressed in
    let stops : reading_of addressed c.new-lines.result.rest.now ≡ Err left = subst (λ (s : Stop). FailsText s (reading_of addressed c.new-lines.result.rest.now)) c.in-Err-Line.field-0-is c.in-Err-Line.ensures in
    let reads = subst (λ (t : List ℕ). reading_of addressed t ≡ Err left) c.new-lines.ensures stops in
    let size = c.saturating_sub.ensures in
    let is : c.saturating_sub.result ≡ length c.args.bytes.now - left = omega (arith, size) in
    place_of addressed c.args.bytes.now c.saturating_sub.result left reads is
