-- Calls that put or take away whole files, one behind the other.
use Rattle.std.proofs.Common.{◌≡◌, ◌⊎◌, inl, inr, ⊎_elim, ℕ, zero, suc, ◌+◌, ◌<◌, length, take, drop, get_or, arith, take-append-drop, List, [], ◌∷◌, ◌++◌, Some, None, refl, sym, ◌∙◌, ap, subst, append_assoc}
use Rattle.std.proofs.lemmas.List.{take_more, drop_more}
use Rattle.std.specs.FinMap.{get, insert, remove}
use Rattle.dkg_journal.specs.Names.{Files}
use Rattle.dkg_journal.specs.Disk.{Allowed, Did, ImagesFollow, Inside, IsUnchanged, Lands, files_after}
use Rattle.dkg_journal.specs.Wholes.{Amid, AreOfWhole, Becomes, IsOfWhole, after_all}
use Rattle.dkg_journal.specs.declared.disk.Op.{Op}
use Rattle.dkg_journal.specs.declared.disk.Op.TheVariants.{WriteAt, Sync, Barrier, Install, Remove}
use Rattle.dkg_journal.proofs.Steps.{get_here, weaken, compose}
use Rattle.dkg_journal.proofs.AtOnce.{get_other, get_gone, gone_here}
use Rattle.dkg_journal.proofs.SameFiles.{same_files}

pub after_push : (ops : List Op) (op : Op) (f : Files) → after_all (ops ++ op ∷ []) f ≡ files_after op (after_all ops f)
after_push [] op f = refl
after_push (x ∷ ops) op f = after_push ops op (files_after x f)

pub after_both : (xs ys : List Op) (f : Files) → after_all (xs ++ ys) f ≡ after_all ys (after_all xs f)
after_both [] ys f = refl
after_both (x ∷ xs) ys f = after_both xs ys (files_after x f)

pub amid_none : (ops : List Op) (f : Files) → Amid ops f f
amid_none [] f = refl
amid_none (op ∷ ops) f = inl refl

-- after the first calls
pub amid_front : (xs ys : List Op) (f c : Files) → c ≡ after_all xs f → Amid (xs ++ ys) f c
amid_front [] ys f c is = subst (λ (d : Files). Amid ys f d) (sym is) (amid_none ys f)
amid_front (x ∷ xs) ys f c is = inr (amid_front xs ys (files_after x f) c is)

pub amid_all : (ops : List Op) (f c : Files) → c ≡ after_all ops f → Amid ops f c
amid_all [] f c is = is
amid_all (op ∷ ops) f c is = inr (amid_all ops (files_after op f) c is)

-- .. and of the others behind them
pub amid_split : (xs ys : List Op) (f c : Files) → Amid (xs ++ ys) f c → Amid xs f c ⊎ Amid ys (after_all xs f) c
amid_split [] ys f c amid = inr amid
amid_split (x ∷ xs) ys f c amid = ⊎_elim (λ (is : c ≡ f). inl (inl is)) (λ later. ⊎_elim (λ front. inl (inr front)) (λ back. inr back) (amid_split xs ys (files_after x f) c later)) amid

-- what a crash inside a call of a whole file leaves: before or after
pub before_or_after : (op : Op) (f c : Files) → IsOfWhole op → Inside op f c → (c ≡ f) ⊎ (c ≡ files_after op f)
before_or_after (Install name bytes) f c whole inside = ⊎_elim
    (λ (same : get c name ≡ get f name). inl (same_files name f c inside.0 same))
    (λ (new : get c name ≡ Some bytes). inr (same_files name (insert f name bytes) c (λ q ne. inside.0 q ne ∙ sym (get_other f name bytes q ne)) (new ∙ sym (get_here f name bytes))))
    inside.1
before_or_after (Remove name) f c whole inside = ⊎_elim
    (λ (same : get c name ≡ get f name). inl (same_files name f c inside.0 same))
    (λ (new : get c name ≡ None). inr (same_files name (remove f name) c (λ q ne. inside.0 q ne ∙ sym (get_gone f name q ne)) (new ∙ sym (gone_here f name))))
    inside.1
before_or_after (WriteAt name place bytes) f c whole inside = absurd whole
before_or_after (Sync name) f c whole inside = absurd whole
before_or_after Barrier f c whole inside = absurd whole

-- .. and once it has returned Ok: after
pub surely_after : (op : Op) (old new f c : Files) (next : Files → Type 0) → IsOfWhole op → Inside op f c → Did op old new next → next c → c ≡ files_after op f
surely_after (Install name bytes) old new f c next whole inside did now = same_files name (insert f name bytes) c (λ q ne. inside.0 q ne ∙ sym (get_other f name bytes q ne)) (did.durable c now ∙ sym (get_here f name bytes))
surely_after (Remove name) old new f c next whole inside did now = same_files name (remove f name) c (λ q ne. inside.0 q ne ∙ sym (get_gone f name q ne)) (did.durable c now ∙ sym (gone_here f name))
surely_after (WriteAt name place bytes) old new f c next whole inside did now = absurd whole
surely_after (Sync name) old new f c next whole inside did now = absurd whole
surely_after Barrier old new f c next whole inside did now = absurd whole

pub whole_allowed : (op : Op) (f : Files) → IsOfWhole op → Allowed f op
whole_allowed (Install name bytes) f whole = tt
whole_allowed (Remove name) f whole = tt
whole_allowed (WriteAt name place bytes) f whole = absurd whole
whole_allowed (Sync name) f whole = absurd whole
whole_allowed Barrier f whole = absurd whole

pub whole_middle : (xs : List Op) (op : Op) (ys : List Op) → AreOfWhole (xs ++ op ∷ ys) → IsOfWhole op
whole_middle [] op ys all = all.0
whole_middle (x ∷ xs) op ys all = whole_middle xs op ys all.1

pub whole_both : (xs ys : List Op) → AreOfWhole xs → AreOfWhole ys → AreOfWhole (xs ++ ys)
whole_both [] ys a b = b
whole_both (x ∷ xs) ys a b = (a.0, whole_both xs ys a.1 b)

pub whole_at : (ops : List Op) (i : ℕ) (x : Op) → x ≡ get_or ops i x → i < length ops → AreOfWhole ops → IsOfWhole x
whole_at [] i x is low all = absurd (omega (arith, low))
whole_at (op ∷ ops) zero x is low all = subst IsOfWhole (sym is) all.0
whole_at (op ∷ ops) (suc i) x is low all = whole_at ops i x is (omega (arith, low)) all.1

pub pushed : (ops : List Op) (i : ℕ) (x : Op) → x ≡ get_or ops i x → i < length ops → take (i + 1) ops ≡ take i ops ++ x ∷ []
pushed ops i x is low = take_more ops i x low ∙ ap (λ (y : Op). take i ops ++ y ∷ []) (sym is)

pub split_at : (ops : List Op) (i : ℕ) (x : Op) → x ≡ get_or ops i x → i < length ops → take i ops ++ x ∷ drop (i + 1) ops ≡ ops
split_at ops i x is low = ap (λ (l : List Op). take i ops ++ l) (ap (λ (y : Op). y ∷ drop (i + 1) ops) is ∙ sym (drop_more ops i x low)) ∙ take-append-drop i ops

-- ONE MORE CALL

module _ (ops : List Op) (op : Op) (image mid next : Files → Type 0) (whole : IsOfWhole op) (done : ImagesFollow (Becomes ops) image mid) (step : ImagesFollow (Inside op) mid next) where
  pub follows_amid : (rest : List Op) → ImagesFollow (Amid (ops ++ op ∷ rest)) image next
  follows_amid rest = compose (Becomes ops) (Inside op) (Amid (ops ++ op ∷ rest)) image mid next (λ x y z is inside. ⊎_elim
      (λ (same : z ≡ y). amid_front ops (op ∷ rest) x z (same ∙ is))
      (λ (new : z ≡ files_after op y). subst (λ (l : List Op). Amid l x z) (split rest) (amid_front (ops ++ op ∷ []) rest x z (new ∙ ap (files_after op) is ∙ sym (after_push ops op x))))
      (before_or_after op y z whole inside)) done step
    where
      split : (rest : List Op) → (ops ++ op ∷ []) ++ rest ≡ ops ++ op ∷ rest
      split rest = append_assoc ops (op ∷ []) rest

  pub follows_becomes : (old new : Files) → Did op old new next → ImagesFollow (Becomes (ops ++ op ∷ [])) image next
  follows_becomes old new did = record {
    each = λ c now.
        let y = step.each c now in
        let x = done.each y.0 y.1 in
        (x.0, x.1, surely_after op old new y.0 c next whole y.2 did now ∙ ap (files_after op) x.2 ∙ sym (after_push ops op x.0));
  }

pub becomes_none : (image : Files → Type 0) → ImagesFollow (Becomes []) image image
becomes_none image = record { each = λ c now. (c, now, refl) }

pub becomes_amid : (ops : List Op) (image next : Files → Type 0) → ImagesFollow (Becomes ops) image next → ImagesFollow (Amid ops) image next
becomes_amid ops image next step = weaken (Becomes ops) (Amid ops) image next (λ x y now is. amid_all ops x y is) step

-- nothing is loose before, and nothing behind
pub becomes_lands : (ops : List Op) (old new : Files) (image next : Files → Type 0) → Lands old image → ImagesFollow (Becomes ops) image next → new ≡ after_all ops old → Lands new next
becomes_lands ops old new image next lands step is = record { only = λ c now. let x = step.each c now in x.2 ∙ ap (after_all ops) (lands.only x.0 x.1) ∙ sym is }

pub from_same : {D : Type 0} (files : D → Files) (image : D → Files → Type 0) (a b : D) (P : Files → Files → Type 0) (next : Files → Type 0) → IsUnchanged files image a b → ImagesFollow P (image b) next → ImagesFollow P (image a) next
from_same files image a b P next same step = record { each = λ c now. let from = step.each c now in (from.0, same.same_images from.0 from.1, from.2) }
