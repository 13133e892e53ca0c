use Rattle.std.proofs.Common.{◌≡◌, [], ◌∷◌, ◌++◌, ap, ◌∙◌}
use Rattle.std.specs.Int.{w32, w64, to_be_bytes}
use Rattle.std.specs.Prelude.{length}
use Rattle.sha2.specs.Sha256.{sha256}
use Rattle.sha2.proofs.Facts256.{length-sha256}
use Rattle.dkg_generator.proofs.Firsts.{is_coefficient}
use Rattle.dkg_generator.proofs.chain.coefficient.Goals as goal

pub returns : goal.returns
returns c =
    let seed = to_be_bytes w64 c.args.number ++ 1 ∷ [] in
    let ends = c.finalize-digest.ensures _ (c.update-3.ensures _ (c.update-2.ensures _ (c.update.ensures _ c.new-hasher.ensures))) in
    let is : c.finalize-digest.result ≡ sha256 (seed ++ to_be_bytes w32 c.args.index) = cc (ends, c.to_be_bytes.ensures, c.to_be_bytes-2.ensures) in
    let size = ap length is ∙ length-sha256 (seed ++ to_be_bytes w32 c.args.index) in
    is_coefficient seed c.finalize-digest.result c.args.index c.from_be_bytes.result c.in-Some.element size is c.from_be_bytes.ensures c.in-Some.ensures.same
