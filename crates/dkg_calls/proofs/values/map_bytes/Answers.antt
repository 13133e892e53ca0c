use Rattle.std.proofs.Common.{ℕ, ◌≤◌, length, arith}
use Rattle.dkg_values.specs.Lists.{values_of}
use Rattle.dkg_values.specs.Sizes.{all_hold}
use Rattle.dkg_values.specs.Uint.{uint}
use Rattle.dkg_values.specs.UintGrammar.{uint_short}
use Rattle.dkg_calls.proofs.values.map_bytes.Goals as goal

pub encode-requires : goal.encode-requires
encode-requires c =
    let heights = values_of c.args.heights.now in
    c.has_size.ensures 10 (omega arith) (all_hold (λ (n : ℕ). length (uint n) ≤ 10) uint_short heights) (all_hold (λ (n : ℕ). Unit {0}) (λ n. tt) heights)
