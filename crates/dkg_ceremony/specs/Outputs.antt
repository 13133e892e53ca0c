-- Outputs as bytes.
use Rattle.std.specs.Prelude.{◌≡◌, ℕ, Bool, true, false, List, ◌++◌, length, Result, Ok, Err, refl}
use Rattle.dkg_values.specs.declared.codec.CodecError.{CodecError}
use Rattle.dkg_values.specs.declared.codec.CodecError.TheVariants.{Invalid}
use Rattle.dkg_values.specs.declared.codec.What.TheVariants as what
use Rattle.dkg_values.specs.Codec.{Reading}
use Rattle.dkg_values.specs.Bytes.{bytes_at}
use Rattle.dkg_values.specs.Lists.{set_at, set_spelling, SetFits}
use Rattle.dkg_values.specs.Joined.{beside_at, BothFit}
use Rattle.dkg_ceremony.specs.declared.sharing.Sharing.{Sharing}
use Rattle.dkg_ceremony.specs.declared.output.Output.{Output}
use Rattle.dkg_ceremony.specs.Sharings.{sharing_bytes, sharing_at, SharingFits}
use Rattle.dkg_ceremony.specs.Agreement.{parts_agree}
use Rattle.dkg_ceremony.specs.AgreementTest.{agreed}
use Rattle.dkg_ceremony.specs.Partly.{partly_at}

abbrev pub output_bytes : Output → List ℕ
output_bytes o = o.summary ++ sharing_bytes o.sharing ++ set_spelling o.dealers ++ set_spelling o.players ++ set_spelling o.revealed

abbrev pub OutputParts : Type 0
OutputParts = List ℕ × (Sharing × (List ℕ × (List ℕ × List ℕ)))

abbrev pub output_parts : Output → OutputParts
output_parts o = (o.summary, (o.sharing, (o.dealers, (o.players, o.revealed))))

abbrev pub do_parts_agree : OutputParts → Bool
do_parts_agree p = parts_agree p.1.0.total p.1.0.poly p.1.1.1.0 p.1.1.1.1

abbrev pub output_where : (p : OutputParts) (b : Bool) → do_parts_agree p ≡ b → Result Output CodecError
output_where p true are = Ok (record { summary = p.0; sharing = p.1.0; dealers = p.1.1.0; players = p.1.1.1.0; revealed = p.1.1.1.1; agree = agreed _ _ _ _ are })
output_where p false are = Err (Invalid what.Output)

-- the output of parts that agree
abbrev pub output_from : OutputParts → Result Output CodecError
output_from p = output_where p (do_parts_agree p) refl

-- the mark, the sharing, the dealers, the players and the revealed, which agree
abbrev pub output_at : (most version : ℕ) → List ℕ → Reading Output
output_at most version = partly_at output_from (beside_at (bytes_at 8) (beside_at (sharing_at most version) (beside_at (set_at most) (beside_at (set_at most) (set_at most)))))

abbrev pub OutputFits : (most version : ℕ) → Output → Type 0
OutputFits most version o = BothFit (λ bs. length bs ≡ 8) (BothFit (SharingFits most version) (BothFit (SetFits most) (BothFit (SetFits most) (SetFits most)))) (output_parts o)
