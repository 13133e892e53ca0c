use Rattle.std.proofs.Common.{◌∙◌, ◌++◌, ℕ, List, [], ◌∷◌, ap, append_assoc}
use Rattle.std.specs.Prelude.{take}
use Rattle.std.specs.Int.{w32, to_be_bytes}
use Rattle.sha2.specs.Sha256.{sha256}
use Rattle.dkg_ceremony.specs.Marks.{domain_byte, mark_of}
use Rattle.dkg_ceremony.specs.Rounds.{round_bytes}
use Rattle.dkg_ceremony.proofs.round.Round.mark.Goals as goal

pub returns : goal.returns
unfolding mark_of
returns c = c.mark_behind.ensures _ c.hash_of.ensures ∙ ap (λ (m : List ℕ). take 8 (sha256 m)) (append_assoc (to_be_bytes w32 c.args.key) (domain_byte c.args.domain ∷ [] ++ round_bytes c.args.self.now) c.args.rest.now)
