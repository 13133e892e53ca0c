use Rattle.std.proofs.Common.{◌≤◌, ℕ, length, drop, take, ◌∙◌, ap, arith, List}
use Rattle.dkg_journal.proofs.Reading.{body_is}
use Rattle.dkg_journal.proofs.opening.split_record.Goals as goal

pub returns-clause-found : goal.returns-clause-found
returns-clause-found c =
    let found = c.in_ok-len.ensures.found in
    let e = c.split_at.ensures in
    let inside : c.in_ok-len.len ≤ length (drop 4 c.args.after.now) = omega (arith, c.if-rest-len.false, ap length found.2) in
    let h = body_is c.args.after.now c.in_ok-len.len (λ i. omega (arith, c.type_inv.after i)) found.0 found.1 inside in
    let front = e.front ∙ ap (λ (l : List ℕ). take c.in_ok-len.len l) found.2 in
    let back = e.back ∙ ap (λ (l : List ℕ). drop c.in_ok-len.len l) found.2 in
    rw (front, back) h
