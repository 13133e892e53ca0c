use Rattle.std.proofs.Common.{◌≡◌, ◌+◌, [], ◌∷◌, ◌++◌, arith}
use Rattle.std.specs.Int.{w64, to_be_bytes}
use Rattle.std.proofs.lemmas.List.FromFn.{map-range_with_len_more}
use Rattle.dkg_ceremony.specs.Deals.{coefficient_of}
use Rattle.dkg_generator.proofs.chain.polynomial.Goals as goal

pub loop-index-preserved : goal.loop-index-preserved
loop-index-preserved c =
    let index = c.loop-index.index in
    let more = map-range_with_len_more (coefficient_of (to_be_bytes w64 c.args.number ++ 1 ∷ [])) 0 index index (omega arith) in
    cc (more, c.loop-index.invariant, c.in_ok-push.ensures.items, c.coefficient.ensures)
