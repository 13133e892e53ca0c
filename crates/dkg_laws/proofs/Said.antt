-- A run says the lines of its acts.
use Rattle.std.proofs.Common.{◌≡◌, inl, inr, List, [], ◌∷◌, ◌++◌, refl, sym, ◌∙◌, ap, append_assoc, append-nil}
use Rattle.dkg_infos.specs.declared.entry.Entry.{Entry}
use Rattle.dkg_store.specs.Acts.{Acts, Say, Do, Ask, Goes, Stops, World, says, does, Completes, Faults, Breaks, Cause, went, stopped, broken}
use Rattle.dkg_core.specs.Said.{SaysAll, SaysUpTo, SaysFirst, RunsSay}

-- these lines came to a transcript, and they are so
record Came (out now : List Entry) (P : List Entry → Type 0) : Type 0 where
  lines : List Entry
  added : now ≡ out ++ lines
  are : P lines

none_came : {out now : List Entry} {P : List Entry → Type 0} → now ≡ out → P [] → Came out now P
none_came {out} is p = record { lines = []; added = is ∙ sym (append-nil out); are = p }

one_more : (line : Entry) {out now : List Entry} {P Q : List Entry → Type 0} → Came (out ++ line ∷ []) now P → ((lines : List Entry) → P lines → Q (line ∷ lines)) → Came out now Q
one_more line {out} came so = record { lines = line ∷ came.lines; added = came.added ∙ append_assoc out (line ∷ []) came.lines; are = so came.lines came.are }

as_lines : {out now : List Entry} {P Q : List Entry → Type 0} → Came out now P → ((lines : List Entry) → P lines → Q lines) → Came out now Q
as_lines came so = record { lines = came.lines; added = came.added; are = so came.lines came.are }

module _ {F S : Type 0} where
  all_came : (acts : Acts F S) (end : S) (w new : World) → Completes acts end w new → Came w.out new.out (SaysAll acts end)
  all_came (Say line acts) end w new a = one_more line (all_came acts end (says w line) new a) (λ lines p. (lines, refl, p))
  all_came (Do op acts) end w new a = all_came acts end (does w op) new a
  all_came (Ask f) end w new a = as_lines (all_came (f w.held) end w new a) (λ lines p. (w.held, p))
  all_came (Goes its) end w new a = none_came (ap (λ (x : World). x.out) a.0) (refl, a.1)
  all_came (Stops fault) end w new a = absurd a

  up_to_came : (acts : Acts F S) (fault : F) (w new : World) → Faults acts fault w new → Came w.out new.out (SaysUpTo acts fault)
  up_to_came (Say line acts) fault w new a = one_more line (up_to_came acts fault (says w line) new a) (λ lines p. (lines, refl, p))
  up_to_came (Do op acts) fault w new a = up_to_came acts fault (does w op) new a
  up_to_came (Ask f) fault w new a = as_lines (up_to_came (f w.held) fault w new a) (λ lines p. (w.held, p))
  up_to_came (Goes end) fault w new a = absurd a
  up_to_came (Stops its) fault w new a = none_came (ap (λ (x : World). x.out) a.0) (refl, a.1)

  first_came : (cause : Cause) (acts : Acts F S) (w new : World) → Breaks cause acts w new → Came w.out new.out (SaysFirst acts)
  first_came cause (Say line acts) w new (inl none) = none_came (ap (λ (x : World). x.out) none.1) (inl refl)
  first_came cause (Say line acts) w new (inr more) = one_more line (first_came cause acts (says w line) new more) (λ lines p. inr (lines, refl, p))
  first_came cause (Do op acts) w new (inl tears) = none_came tears.same (inl refl)
  first_came cause (Do op acts) w new (inr more) = as_lines (first_came cause acts (does w op) new more) (λ lines p. inr p)
  first_came cause (Ask f) w new a = as_lines (first_came cause (f w.held) w new a) (λ lines p. inr (w.held, p))
  first_came cause (Goes end) w new a = none_came (ap (λ (x : World). x.out) a.1) refl
  first_came cause (Stops fault) w new a = none_came (ap (λ (x : World). x.out) a.1) refl

pub runs_say : {F S : Type 0} → RunsSay F S
runs_say acts (went end) w new a = let came = all_came acts end w new a in record { lines = came.lines; added = came.added; by = came.are }
runs_say acts (stopped fault) w new a = let came = up_to_came acts fault w new a in record { lines = came.lines; added = came.added; by = came.are }
runs_say acts (broken cause) w new a = let came = first_came cause acts w new a in record { lines = came.lines; added = came.added; by = came.are }
