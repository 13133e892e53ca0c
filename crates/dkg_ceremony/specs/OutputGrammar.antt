-- The grammar of outputs.
use Rattle.std.proofs.Common.{◌≡◌, ℕ, ◌+◌, Bool, true, false, List, ◌++◌, length, Result, Ok, refl, sym, ap, ◌∙◌, append_assoc, length-append}
use Rattle.dkg_values.specs.declared.codec.CodecError.{CodecError}
use Rattle.dkg_values.specs.Codec.{◌>>=◌, IsGrammar}
use Rattle.dkg_values.specs.Grammar.{ok_is}
use Rattle.dkg_values.specs.Bytes.{bytes_at, bytes_grammar}
use Rattle.dkg_values.specs.Lists.{set_at, set_spelling, SetFits}
use Rattle.dkg_values.specs.ListGrammar.{set_grammar}
use Rattle.dkg_values.specs.Joined.{beside_at, beside_grammar, BothFit, both_spelled}
use Rattle.dkg_ceremony.specs.declared.sharing.Sharing.{Sharing}
use Rattle.dkg_ceremony.specs.declared.output.Output.{Output}
use Rattle.dkg_ceremony.specs.Sharings.{sharing_bytes, sharing_at, SharingFits}
use Rattle.dkg_ceremony.specs.SharingGrammar.{sharing_grammar}
use Rattle.dkg_ceremony.specs.Agreement.{PartsAgree}
use Rattle.dkg_ceremony.specs.AgreementTest.{agreed, agreeing, agree_once}
use Rattle.dkg_ceremony.specs.Partly.{partly_grammar}
use Rattle.dkg_ceremony.specs.Outputs.{OutputParts, output_parts, output_bytes, output_from, output_where, do_parts_agree, output_at, OutputFits}

-- the output of parts that agree
pub output_of_parts : (p : OutputParts) (h : PartsAgree p.1.0.total p.1.0.poly p.1.1.1.0 p.1.1.1.1) (b : Bool) (e : do_parts_agree p ≡ b)
    → output_where p b e ≡ Ok (record { summary = p.0; sharing = p.1.0; dealers = p.1.1.0; players = p.1.1.1.0; revealed = p.1.1.1.1; agree = h })
output_of_parts p h true e =
    ap (λ (k : PartsAgree p.1.0.total p.1.0.poly p.1.1.1.0 p.1.1.1.1). Ok (record { summary = p.0; sharing = p.1.0; dealers = p.1.1.0; players = p.1.1.1.0; revealed = p.1.1.1.1; agree = k }))
    (agree_once p.1.0.total p.1.0.poly p.1.1.1.0 p.1.1.1.1 (agreed p.1.0.total p.1.0.poly p.1.1.1.0 p.1.1.1.1 e) h)
output_of_parts p h false e =
    let other : do_parts_agree p ≡ true = agreeing p.1.0.total p.1.0.poly p.1.1.1.0 p.1.1.1.1 h in
    absurd cc

-- the parts of an output that was made
pub parts_of_output : (p : OutputParts) (b : Bool) (e : do_parts_agree p ≡ b) (o : Output) → output_where p b e ≡ Ok o → output_parts o ≡ p
parts_of_output p true e o is =
    sym (ap output_parts (ok_is (record { summary = p.0; sharing = p.1.0; dealers = p.1.1.0; players = p.1.1.1.0; revealed = p.1.1.1.1; agree = agreed p.1.0.total p.1.0.poly p.1.1.1.0 p.1.1.1.1 e }) o is))
parts_of_output p false e o is = absurd cc

-- Outputs with the same parts are the same.
pub output_by_parts : (a b : Output) → a.summary ≡ b.summary → a.sharing ≡ b.sharing → a.dealers ≡ b.dealers → a.players ≡ b.players → a.revealed ≡ b.revealed → a ≡ b
output_by_parts a b summary sharing dealers players revealed =
    let parts : output_parts a ≡ output_parts b = cc in
    let one : output_from (output_parts a) ≡ Ok a = output_of_parts (output_parts a) a.agree (do_parts_agree (output_parts a)) refl in
    let other : output_from (output_parts b) ≡ Ok b = output_of_parts (output_parts b) b.agree (do_parts_agree (output_parts b)) refl in
    ok_is a b (sym one ∙ ap output_from parts ∙ other)

-- What is read part by part is the output of the parts.
pub output_read : (most version : ℕ) (bytes one two three four rest : List ℕ) (summary : List ℕ) (sharing : Sharing) (dealers players revealed : List ℕ)
    → bytes_at 8 bytes ≡ Ok (summary, one) → sharing_at most version one ≡ Ok (sharing, two) → set_at most two ≡ Ok (dealers, three) → set_at most three ≡ Ok (players, four) → set_at most four ≡ Ok (revealed, rest)
    → (h : PartsAgree sharing.total sharing.poly players revealed) → output_at most version bytes ≡ Ok (record { summary = summary; sharing = sharing; dealers = dealers; players = players; revealed = revealed; agree = h }, rest)
output_read most version bytes one two three four rest summary sharing dealers players revealed e1 e2 e3 e4 e5 h =
    let parts : OutputParts = (summary, (sharing, (dealers, (players, revealed)))) in
    rw (e1, e2, e3, e4, e5) (ap (λ (r : Result Output CodecError). r >>= λ o. Ok (o, rest)) (output_of_parts parts h (do_parts_agree parts) refl))

regrouped : (a b c d e : List ℕ) → a ++ (b ++ (c ++ (d ++ e))) ≡ (((a ++ b) ++ c) ++ d) ++ e
regrouped a b c d e = simp append_assoc

pub output_grammar : (most version : ℕ) → IsGrammar (OutputFits most version) output_bytes (output_at most version)
output_grammar most version =
    let set = SetFits most in
    let keys = set_at most in
    let law = set_grammar most in
    let two = beside_grammar set set_spelling keys set set_spelling keys law law in
    let three = beside_grammar set set_spelling keys (BothFit set set) (both_spelled set_spelling set_spelling) (beside_at keys keys) law two in
    let four = beside_grammar (SharingFits most version) sharing_bytes (sharing_at most version) (BothFit set (BothFit set set)) (both_spelled set_spelling (both_spelled set_spelling set_spelling)) (beside_at keys (beside_at keys keys)) (sharing_grammar most version) three in
    let mark : List ℕ → Type 0 = λ bs. length bs ≡ 8 in
    let five = beside_grammar mark (λ bs. bs) (bytes_at 8) (BothFit (SharingFits most version) (BothFit set (BothFit set set))) (both_spelled sharing_bytes (both_spelled set_spelling (both_spelled set_spelling set_spelling))) (beside_at (sharing_at most version) (beside_at keys (beside_at keys keys))) (bytes_grammar 8) four in
    partly_grammar (BothFit mark (BothFit (SharingFits most version) (BothFit set (BothFit set set)))) (both_spelled (λ bs. bs) (both_spelled sharing_bytes (both_spelled set_spelling (both_spelled set_spelling set_spelling))))
    (beside_at (bytes_at 8) (beside_at (sharing_at most version) (beside_at keys (beside_at keys keys)))) output_from output_parts output_bytes five
    (λ p o is. parts_of_output p (do_parts_agree p) refl o is)
    (λ o. output_of_parts (output_parts o) o.agree (do_parts_agree (output_parts o)) refl)
    (λ o. regrouped o.summary (sharing_bytes o.sharing) (set_spelling o.dealers) (set_spelling o.players) (set_spelling o.revealed))

length_five : (a b c d e : List ℕ) → length ((((a ++ b) ++ c) ++ d) ++ e) ≡ length a + length b + length c + length d + length e
length_five a b c d e = simp length-append refl

pub length_output : (o : Output) → length (output_bytes o) ≡ length o.summary + length (sharing_bytes o.sharing) + length (set_spelling o.dealers) + length (set_spelling o.players) + length (set_spelling o.revealed)
length_output o = length_five o.summary (sharing_bytes o.sharing) (set_spelling o.dealers) (set_spelling o.players) (set_spelling o.revealed)
