-- Runs and what they add to a transcript.
use Rattle.std.proofs.Common.{◌≡◌, inl, inr, List, [], ◌∷◌, ◌++◌, refl, sym, ◌∙◌, ap, subst, append_assoc, append-nil}
use Rattle.dkg_infos.specs.declared.entry.Entry.{Entry}
use Rattle.dkg_store.specs.Acts.{Acts, Say, Do, Ask, Goes, Stops, Operation, World, says, does, Cause, Tears, went, stopped, broken, Completes, Faults, Breaks}
use Rattle.dkg_core.specs.Transcripts.{with_out, TranscriptsMove}

-- P of two moments, and with the same lines behind another transcript
abbrev Moved : (World → World → Type 0) → World → World → List Entry → Type 0
Moved P w new other = (added : List Entry) × (new.out ≡ w.out ++ added) × P (with_out other w) (with_out (other ++ added) new)

stays : (P : World → World → Type 0) (w new : World) (other : List Entry) → new ≡ w → P (with_out other w) (with_out other w) → Moved P w new other
stays P w new other same p = (
  [],
  ap (λ (x : World). x.out) same ∙ sym (append-nil w.out),
  subst (λ (ls : List Entry). P (with_out other w) (with_out ls new)) (sym (append-nil other)) (subst (λ (x : World). P (with_out other w) (with_out other x)) (sym same) p),
)

said : (P Q : World → World → Type 0) (w new : World) (line : Entry) (other : List Entry) → ((x : World) → P (says (with_out other w) line) x → Q (with_out other w) x)
    → Moved P (says w line) new (other ++ line ∷ []) → Moved Q w new other
said P Q w new line other so moved = (
  line ∷ moved.0,
  moved.1 ∙ append_assoc w.out (line ∷ []) moved.0,
  so _ (subst (λ (ls : List Entry). P (says (with_out other w) line) (with_out ls new)) (append_assoc other (line ∷ []) moved.0) moved.2),
)

as_well : (P Q : World → World → Type 0) (w mid new : World) (other : List Entry) → mid.out ≡ w.out → ((x : World) → P (with_out other mid) x → Q (with_out other w) x) → Moved P mid new other → Moved Q w new other
as_well P Q w mid new other same so moved = (moved.0, moved.1 ∙ ap (λ (ls : List Entry). ls ++ moved.0) same, so _ moved.2)

torn : (cause : Cause) (op : Operation) (w new : World) (other : List Entry) → Tears cause op w new → Moved (Tears cause op) w new other
torn cause op w new other tears = (
  [],
  tears.same ∙ sym (append-nil w.out),
  record { same = append-nil other; torn = tears.torn; calls = tears.calls; most = tears.most; fuse = tears.fuse; ends = tears.ends },
)

module _ {F S : Type 0} where
  completes : (acts : Acts F S) (end : S) (w new : World) (other : List Entry) → Completes acts end w new → Moved (Completes acts end) w new other
  completes (Say line acts) end w new other run = said (Completes acts end) (Completes (Say line acts) end) w new line other (λ x p. p) (completes acts end (says w line) new (other ++ line ∷ []) run)
  completes (Do op acts) end w new other run = as_well (Completes acts end) (Completes (Do op acts) end) w (does w op) new other refl (λ x p. p) (completes acts end (does w op) new other run)
  completes (Ask f) end w new other run = completes (f w.held) end w new other run
  completes (Goes its) end w new other run = stays (Completes {F = F} (Goes its) end) w new other run.0 (refl, run.1)
  completes (Stops fault) end w new other run = absurd run

  faults : (acts : Acts F S) (fault : F) (w new : World) (other : List Entry) → Faults acts fault w new → Moved (Faults acts fault) w new other
  faults (Say line acts) fault w new other run = said (Faults acts fault) (Faults (Say line acts) fault) w new line other (λ x p. p) (faults acts fault (says w line) new (other ++ line ∷ []) run)
  faults (Do op acts) fault w new other run = as_well (Faults acts fault) (Faults (Do op acts) fault) w (does w op) new other refl (λ x p. p) (faults acts fault (does w op) new other run)
  faults (Ask f) fault w new other run = faults (f w.held) fault w new other run
  faults (Goes end) fault w new other run = absurd run
  faults (Stops its) fault w new other run = stays (Faults {S = S} (Stops its) fault) w new other run.0 (refl, run.1)

  breaks : (cause : Cause) (acts : Acts F S) (w new : World) (other : List Entry) → Breaks cause acts w new → Moved (Breaks cause acts) w new other
  breaks cause (Say line acts) w new other (inl none) = stays (Breaks cause (Say line acts)) w new other none.1 (inl (none.0, refl))
  breaks cause (Say line acts) w new other (inr run) =
      said (Breaks cause acts) (Breaks cause (Say line acts)) w new line other (λ x p. inr p) (breaks cause acts (says w line) new (other ++ line ∷ []) run)
  breaks cause (Do op acts) w new other (inl tears) = as_well (Tears cause op) (Breaks cause (Do op acts)) w w new other refl (λ x p. inl p) (torn cause op w new other tears)
  breaks cause (Do op acts) w new other (inr run) = as_well (Breaks cause acts) (Breaks cause (Do op acts)) w (does w op) new other refl (λ x p. inr p) (breaks cause acts (does w op) new other run)
  breaks cause (Ask f) w new other run = breaks cause (f w.held) w new other run
  breaks cause (Goes end) w new other none = stays (Breaks {F = F} cause (Goes end)) w new other none.1 (none.0, refl)
  breaks cause (Stops fault) w new other none = stays (Breaks {S = S} cause (Stops fault)) w new other none.1 (none.0, refl)

pub transcripts_move : {F S : Type 0} → TranscriptsMove F S
transcripts_move acts (went end) w new other run = completes acts end w new other run
transcripts_move acts (stopped fault) w new other run = faults acts fault w new other run
transcripts_move acts (broken cause) w new other run = breaks cause acts w new other run
