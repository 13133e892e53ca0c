-- Participants as bytes: dealers, players and next players.
use Rattle.std.proofs.Common.{ℕ, List, ◌++◌, refl, append_assoc}
use Rattle.dkg_values.specs.Codec.{Reading, IsGrammar}
use Rattle.dkg_values.specs.Joined.{beside_at, beside_grammar, BothFit, both_spelled, seen_at, seen_grammar}
use Rattle.dkg_values.specs.Lists.{set_at, set_spelling, SetFits}
use Rattle.dkg_values.specs.ListGrammar.{set_grammar}
use Rattle.dkg_infos.specs.declared.participants.Participants.{Participants}

abbrev pub participants_spelling : Participants → List ℕ
participants_spelling p = set_spelling p.dealers ++ set_spelling p.players ++ set_spelling p.next_players

abbrev pub ParticipantsParts : Type 0
ParticipantsParts = List ℕ × (List ℕ × List ℕ)

abbrev pub participants_from : ParticipantsParts → Participants
participants_from p = record { dealers = p.0; players = p.1.0; next_players = p.1.1 }

abbrev pub participants_parts : Participants → ParticipantsParts
participants_parts p = (p.dealers, (p.players, p.next_players))

abbrev pub participants_at : ℕ → List ℕ → Reading Participants
participants_at most = seen_at participants_from (beside_at (set_at most) (beside_at (set_at most) (set_at most)))

-- each set is a set within the limit
abbrev pub ParticipantsFit : ℕ → Participants → Type 0
ParticipantsFit most p = BothFit (SetFits most) (BothFit (SetFits most) (SetFits most)) (participants_parts p)

pub participants_grammar : (most : ℕ) → IsGrammar (ParticipantsFit most) participants_spelling (participants_at most)
participants_grammar most =
    let two = beside_grammar (SetFits most) set_spelling (set_at most) (SetFits most) set_spelling (set_at most) (set_grammar most) (set_grammar most) in
    let all = beside_grammar (SetFits most) set_spelling (set_at most) (BothFit (SetFits most) (SetFits most)) (both_spelled set_spelling set_spelling) (beside_at (set_at most) (set_at most)) (set_grammar most) two in
    seen_grammar (BothFit (SetFits most) (BothFit (SetFits most) (SetFits most))) (both_spelled set_spelling (both_spelled set_spelling set_spelling)) (beside_at (set_at most) (beside_at (set_at most) (set_at most))) participants_from participants_parts participants_spelling all
    (λ a. refl) (λ p. refl) (λ p. simp append_assoc)
