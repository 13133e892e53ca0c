-- The entries in each step of an append.
use Rattle.std.proofs.Common.{◌≡◌, ◌≢◌, inl, inr, ⊎_elim, ℕ, ◌+◌, Bool, true, false, cond, ◌<◌, ◌≤◌, ◌^◌, List, [], ◌∷◌, ◌++◌, length, Option, Some, None, Result, Ok, Err, OnOk, refl, sym, ◌∙◌, ap, subst, arith, length-append}
use Rattle.std.proofs.lemmas.Bool.{cases_eq}
use Rattle.std.specs.FinMap.{get, insert, get-insert}
use Rattle.std.specs.Cmp.{nat_cmp_total}
use Rattle.std.specs.Option.{unwrap_or}
use Rattle.std.specs.Ordering.{eq_by_cmp, nat_cmp}
use Rattle.std.proofs.lemmas.Bool.Decides.{nat_tests}
use Rattle.dkg_journal.specs.Names.{Files, name_number}
use Rattle.dkg_journal.specs.Disk.{Torn, written, SameElse, HasFile, Inside, ImagesFollow, Did}
use Rattle.dkg_journal.specs.Places.{Places, flat_place, place_at}
use Rattle.dkg_journal.specs.Records.{SectionEntry, entries, placed, IsShut, IsBody, Staged, spelled, behind_gate}
use Rattle.dkg_journal.specs.Steps.{Firm, IsNextAppend, IsOpenAt, IsSegmentAt, SegmentAt, Into, KeepsBut, AddsEntry, MayAdd, Grows, place_or_start}
use Rattle.dkg_values.specs.declared.name.Name.{Name}
use Rattle.dkg_values.specs.declared.name.Name.TheVariants.{Plan, Flat, Segment}
use Rattle.dkg_journal.specs.declared.disk.Op.TheVariants.{Install}
use Rattle.dkg_journal.proofs.Shut.{shut_bodies, torn_behind, written_behind, torn_gate, written_gate}
use Rattle.dkg_journal.proofs.Sections.{bodies_at, same_entries, one_entry_more}
use Rattle.dkg_journal.proofs.SameFiles.{same_files, same_name}
use Rattle.dkg_journal.proofs.Steps.{compose, weaken, get_here}

pub flat_apart : (section : ℕ) → Flat ≢ Segment section
flat_apart section e = absurd (omega (arith, ap name_number e))

pub flat_plan : Flat ≢ Plan
flat_plan e = absurd (omega (arith, ap name_number e))

pub segment_plan : (s : ℕ) → Segment s ≢ Plan
segment_plan s e = absurd (omega (arith, ap name_number e))

pub segments_apart : (s section : ℕ) → s ≢ section → Segment s ≢ Segment section
segments_apart s section ne e = ne (omega (arith, ap name_number e))

-- the records of a file that is there
pub bodies_shut : (bs : List (List ℕ)) (place : ℕ) (x : List ℕ) (o : Option (List ℕ)) → o ≡ Some x → IsShut 0 bs place x → bodies_at o ≡ bs
bodies_shut bs place x o there shut = ap bodies_at there ∙ shut_bodies 0 bs place x shut

other_bodies : (section : ℕ) (d c : Files) → SameElse (Segment section) d c → (s : ℕ) → s ≢ section → bodies_at (get c (Segment s)) ≡ bodies_at (get d (Segment s))
other_bodies section d c others s ne = ap bodies_at (others (Segment s) (segments_apart s section ne))

same_bodies : (section : ℕ) (d c : Files) → SameElse (Segment section) d c → bodies_at (get c (Segment section)) ≡ bodies_at (get d (Segment section)) → (s : ℕ) → bodies_at (get c (Segment s)) ≡ bodies_at (get d (Segment s))
same_bodies section d c others same s = elim (cases_eq s section) [
  | inl is ↦ subst (λ (n : ℕ). bodies_at (get c (Segment n)) ≡ bodies_at (get d (Segment n))) (sym is) same
  | inr ne ↦ other_bodies section d c others s ne
]

-- one segment has the same records
pub same_at : (section : ℕ) (d c : Files) → get d Flat ≡ None → SameElse (Segment section) d c → bodies_at (get c (Segment section)) ≡ bodies_at (get d (Segment section)) → entries c ≡ entries d
same_at section d c no_flat others same = same_entries c d (others Flat (flat_apart section) ∙ no_flat) no_flat (same_bodies section d c others same)

-- .. or one more
pub more_at : (section : ℕ) (body : List ℕ) (d c : Files) → get d Flat ≡ None → SameElse (Segment section) d c → bodies_at (get c (Segment section)) ≡ bodies_at (get d (Segment section)) ++ body ∷ [] → entries c ≡ placed (entries d) (section, body)
more_at section body d c no_flat others more = one_entry_more c d section body (others Flat (flat_apart section) ∙ no_flat) no_flat more (other_bodies section d c others)

pub allowed : (name : Name) (x : List ℕ) (place : ℕ) (files : Files) (image : Files → Type 0) → Firm name x files image → place ≤ length x → HasFile files name (λ file. place ≤ length file)
allowed name x place files image firm le = record { bytes = x; there = firm.there; so = le }

pub room : (bs : List (List ℕ)) (place : ℕ) (x : List ℕ) → IsShut 0 bs place x → place + 1 ≤ length x
room bs place x shut = omega (arith, ap length shut.is, length-append (spelled bs) (shut.gate ∷ shut.junk), shut.size)

pub staged_shut : (bs : List (List ℕ)) (body : List ℕ) (place : ℕ) (x : List ℕ) → Staged 0 bs body place x → IsShut 0 bs place x
staged_shut bs body place x staged = record { gate = staged.gate; junk = _; is = staged.is; shut = staged.shut; size = staged.size; short = staged.short }

-- no image has a flat file
abbrev pub IsParted : (Files → Type 0) → Type 0
IsParted image = (c : Files) → image c → get c Flat ≡ None

pub keeps_parted : (section : ℕ) (a b : Files → Type 0) → IsParted a → ImagesFollow (KeepsBut (Segment section)) a b → IsParted b
keeps_parted section a b parted step c now = let d = step.each c now in d.2.others Flat (flat_apart section) ∙ parted d.0 d.1

pub into_parted : (section : ℕ) (P : List ℕ → Type 0) (a b : Files → Type 0) → IsParted a → ImagesFollow (Into (Segment section) P) a b → IsParted b
into_parted section P a b parted step c now = let d = step.each c now in d.2.0 Flat (flat_apart section) ∙ parted d.0 d.1

pub keeps_behind : (section place n : ℕ) (files : Files) (image next : Files → Type 0) (at : SegmentAt section place files image) → IsParted image → ImagesFollow (Into (Segment section) (Torn (place + 1) n at.bytes)) image next → ImagesFollow (KeepsBut (Segment section)) image next
keeps_behind section place n files image next at parted step = weaken _ _ image next (λ d c now into. record {
  others = into.0;
  same = same_at section d c (parted d now) into.0 (bodies_shut at.bs place into.1.bytes _ into.1.there (torn_behind 0 at.bs place n at.bytes into.1.bytes at.shut into.1.so)
      ∙ sym (bodies_shut at.bs place at.bytes _ (at.firm.only d now) at.shut));
}) step

pub may_add_gate : (section : ℕ) (bs : List (List ℕ)) (body y : List ℕ) (place : ℕ) (files : Files) (image next : Files → Type 0) → Staged 0 bs body place y → Firm (Segment section) y files image → IsParted image → ImagesFollow (Into (Segment section) (Torn place 1 y)) image next → ImagesFollow (MayAdd (section, body)) image next
may_add_gate section bs body y place files image next staged firm parted step = weaken _ _ image next (λ d c now into.
    let before : bodies_at (get d (Segment section)) ≡ bs = bodies_shut bs place y _ (firm.only d now) (staged_shut bs body place y staged) in
    record {
      others = into.0;
      either = ⊎_elim
          (λ (f : IsShut 0 bs place into.1.bytes). inl (same_at section d c (parted d now) into.0 (bodies_shut bs place into.1.bytes _ into.1.there f ∙ sym before)))
          (λ (f : IsShut 0 (bs ++ body ∷ []) (place + 5 + length body) into.1.bytes). inr (more_at section body d c (parted d now) into.0 (bodies_shut (bs ++ body ∷ []) (place + 5 + length body) into.1.bytes _ into.1.there f ∙ ap (λ (l : List (List ℕ)). l ++ body ∷ []) (sym before))))
          (torn_gate 0 bs body place y into.1.bytes staged into.1.so);
    }) step

pub adds_gate : (section : ℕ) (bs : List (List ℕ)) (body y : List ℕ) (place : ℕ) (files last : Files) (image next : Files → Type 0) → Staged 0 bs body place y → Firm (Segment section) y files image → IsParted image → Firm (Segment section) (written place (1 ∷ []) y) last next → ImagesFollow (Into (Segment section) (Torn place 1 y)) image next → ImagesFollow (AddsEntry (section, body)) image next
adds_gate section bs body y place files last image next staged firm parted firm_last step = record {
  each = λ c now.
      let from = step.each c now in
      let before : bodies_at (get from.0 (Segment section)) ≡ bs = bodies_shut bs place y _ (firm.only from.0 from.1) (staged_shut bs body place y staged) in (
        from.0,
        from.1,
        record {
          others = from.2.0;
          added = more_at section body from.0 c (parted from.0 from.1) from.2.0 (bodies_shut (bs ++ body ∷ []) (place + 5 + length body) _ _ (firm_last.only c now) (written_gate 0 bs body place y staged) ∙ ap (λ (l : List (List ℕ)). l ++ body ∷ []) (sym before));
        },
      );
}

pub same_may_add : (e : SectionEntry) (image : Files → Type 0) → ImagesFollow (MayAdd e) image image
same_may_add e image = record { each = λ c now. (c, now, record { others = λ q ne. refl; either = inl refl }) }

pub keeps_none : (name : Name) (image : Files → Type 0) → ImagesFollow (KeepsBut name) image image
keeps_none name image = record { each = λ c now. (c, now, record { others = λ q ne. refl; same = refl }) }

pub keeps_keeps : (name : Name) (a b c : Files → Type 0) → ImagesFollow (KeepsBut name) a b → ImagesFollow (KeepsBut name) b c → ImagesFollow (KeepsBut name) a c
keeps_keeps name a b c = compose (KeepsBut name) (KeepsBut name) (KeepsBut name) a b c (λ x y z p q. record { others = λ n ne. q.others n ne ∙ p.others n ne; same = q.same ∙ p.same })

pub keeps_may_add : (e : SectionEntry) (a b : Files → Type 0) → ImagesFollow (KeepsBut (Segment e.0)) a b → ImagesFollow (MayAdd e) a b
keeps_may_add e a b step = weaken (KeepsBut (Segment e.0)) (MayAdd e) a b (λ x y now k. record { others = k.others; either = inl k.same }) step

pub then_may_add : (e : SectionEntry) (a b c : Files → Type 0) → ImagesFollow (KeepsBut (Segment e.0)) a b → ImagesFollow (MayAdd e) b c → ImagesFollow (MayAdd e) a c
then_may_add e a b c = compose (KeepsBut (Segment e.0)) (MayAdd e) (MayAdd e) a b c (λ x y z p q. record {
  others = λ name ne. q.others name ne ∙ p.others name ne;
  either = ⊎_elim (λ s. inl (s ∙ p.same)) (λ s. inr (s ∙ ap (λ (l : List SectionEntry). placed l e) p.same)) q.either;
})

pub then_adds : (e : SectionEntry) (a b c : Files → Type 0) → ImagesFollow (KeepsBut (Segment e.0)) a b → ImagesFollow (AddsEntry e) b c → ImagesFollow (AddsEntry e) a c
then_adds e a b c = compose (KeepsBut (Segment e.0)) (AddsEntry e) (AddsEntry e) a b c (λ x y z p q. record {
  others = λ name ne. q.others name ne ∙ p.others name ne;
  added = q.added ∙ ap (λ (l : List SectionEntry). placed l e) p.same;
})

-- a new file is one closed gate
pub new_shut : IsShut 0 [] 0 (0 ∷ [])
new_shut = record { gate = 0; junk = []; is = refl; shut = omega arith; size = refl; short = tt }

pub made_segment : (section : ℕ) (files last : Files) (next : Files → Type 0) → Did (Install (Segment section) (0 ∷ [])) files last next → SegmentAt section 0 last next
made_segment section files last next did = record {
  bs = [];
  bytes = 0 ∷ [];
  firm = record {
    there = ap (λ (m : Files). get m (Segment section)) did.reads ∙ get_here files (Segment section) (0 ∷ []);
    only = did.durable;
  };
  shut = new_shut;
}

-- a section that has no file
pub made_keeps : (section : ℕ) (files : Files) (image next : Files → Type 0) → IsNextAppend section None files image → ImagesFollow (Inside (Install (Segment section) (0 ∷ []))) image next → ImagesFollow (KeepsBut (Segment section)) image next
made_keeps section files image next at step = weaken _ _ image next (λ d c now into. record {
  others = into.0;
  same = ⊎_elim
      (λ (is : get c (Segment section) ≡ get d (Segment section)). ap entries (same_files (Segment section) d c into.0 is))
      (λ (is : get c (Segment section) ≡ Some (0 ∷ [])). same_at section d c (at.no_flat d now) into.0 (bodies_shut [] 0 (0 ∷ []) _ is new_shut ∙ sym (ap bodies_at (at.only d now ∙ at.at))))
      into.1;
}) step

-- .. and one that has one
pub next_segment : (section place : ℕ) (files : Files) (image : Files → Type 0) → IsNextAppend section (Some place) files image → SegmentAt section place files image
next_segment section place files image at = record {
  bs = at.at.0;
  bytes = at.at.1;
  firm = record { there = at.at.2; only = λ c now. at.only c now ∙ at.at.2 };
  shut = at.at.3;
}

pub open_next : (section : ℕ) (places : Places) (files : Files) (image : Files → Type 0) → IsOpenAt places files image → IsNextAppend section (place_at places section) files image
open_next section places files image at = record {
  no_flat = λ c now. at.only c now Flat (λ e. absurd (omega (arith, ap name_number e))) ∙ at.no_flat;
  at = at.each section;
  only = λ c now. at.only c now (Segment section) (λ e. absurd (omega (arith, ap name_number e)));
}

module _ (place section : ℕ) (body : List ℕ) (short : length body < 2 ^ 32) where
  short_body : IsBody 0 body
  short_body = (omega arith, short)

  pub is_staged : (bs : List (List ℕ)) (x : List ℕ) → IsShut 0 bs place x → Staged 0 bs body place (written (place + 1) (behind_gate body) x)
  is_staged bs x shut = written_behind 0 bs body place x shut short_body

  module _ (files1 files2 : Files) (image0 image1 image2 image3 : Files → Type 0) (at : SegmentAt section place files1 image1) (parted : IsParted image0) where
    pub gate_images : ImagesFollow (KeepsBut (Segment section)) image0 image1 → ImagesFollow (Into (Segment section) (Torn (place + 1) (length (behind_gate body)) at.bytes)) image1 image2 → Firm (Segment section) (written (place + 1) (behind_gate body) at.bytes) files2 image2
        → ImagesFollow (Into (Segment section) (Torn place 1 (written (place + 1) (behind_gate body) at.bytes))) image2 image3 → ImagesFollow (MayAdd (section, body)) image0 image3
    gate_images kept torn firm opened =
        let parted1 = keeps_parted section image0 image1 parted kept in
        let keeps = keeps_keeps _ _ _ _ kept (keeps_behind section place _ files1 image1 image2 at parted1 torn) in
        then_may_add (section, body) _ _ _ keeps (may_add_gate section at.bs body _ place files2 image2 image3 (is_staged at.bs at.bytes at.shut) firm (into_parted section _ image1 image2 parted1 torn) opened)

    pub gate_adds : (last : Files) → ImagesFollow (KeepsBut (Segment section)) image0 image1 → ImagesFollow (Into (Segment section) (Torn (place + 1) (length (behind_gate body)) at.bytes)) image1 image2 → Firm (Segment section) (written (place + 1) (behind_gate body) at.bytes) files2 image2
        → Firm (Segment section) (written place (1 ∷ []) (written (place + 1) (behind_gate body) at.bytes)) last image3 → ImagesFollow (Into (Segment section) (Torn place 1 (written (place + 1) (behind_gate body) at.bytes))) image2 image3 → ImagesFollow (AddsEntry (section, body)) image0 image3
    gate_adds last kept torn firm done opened =
        let parted1 = keeps_parted section image0 image1 parted kept in
        let keeps = keeps_keeps _ _ _ _ kept (keeps_behind section place _ files1 image1 image2 at parted1 torn) in
        then_adds (section, body) _ _ _ keeps (adds_gate section at.bs body _ place files2 last image2 image3 (is_staged at.bs at.bytes at.shut) firm (into_parted section _ image1 image2 parted1 torn) done opened)

  pub gate_open : (files1 last : Files) (image1 image3 : Files → Type 0) (at : SegmentAt section place files1 image1) → Firm (Segment section) (written place (1 ∷ []) (written (place + 1) (behind_gate body) at.bytes)) last image3 → SegmentAt section (place + 5 + length body) last image3
  gate_open files1 last image1 image3 at done = record {
    bs = at.bs ++ body ∷ [];
    bytes = written place (1 ∷ []) (written (place + 1) (behind_gate body) at.bytes);
    firm = done;
    shut = written_gate 0 at.bs body place _ (is_staged at.bs at.bytes at.shut);
  }

-- places that are the same
pub open_same : (places places' : Places) (files : Files) (image : Files → Type 0) → ((s : ℕ) → place_at places' s ≡ place_at places s) → IsOpenAt places files image → IsOpenAt places' files image
open_same places places' files image same at = record {
  no_flat = at.no_flat;
  each = λ s. subst (λ (o : Option ℕ). IsSegmentAt o (get files (Segment s))) (sym (same s)) (at.each s);
  only = at.only;
}

pub start_is : (o : Option ℕ) (n : ℕ) → n ≡ unwrap_or o 0 → n ≡ place_or_start o
start_is None n is = is
start_is (Some p) n is = is

-- one file has grown
pub opened_more : (places places' : Places) (section end n : ℕ) (body : List ℕ) (old new : Files) (image next : Files → Type 0) → IsOpenAt places old image → SegmentAt section end new next → ImagesFollow (AddsEntry (section, body)) image next → next new → n ≡ end → places' ≡ insert places section (Some n) → IsOpenAt places' new next
opened_more places places' section end n body old new image next at segment step now count put =
    let back = step.each new now in
    let others : SameElse (Segment section) back.0 new = back.2.others in
    let rest : (q : Name) → q ≢ Plan → q ≢ Segment section → get new q ≡ get old q = λ q no_plan ne. others q ne ∙ at.only back.0 back.1 q no_plan in
    record {
      no_flat = rest Flat flat_plan (flat_apart section) ∙ at.no_flat;
      each = λ s.
          let there : place_at places' s ≡ flat_place (cond (eq_by_cmp nat_cmp s section) (Some (Some end)) (get places s)) = ap (λ (m : Places). flat_place (get m s)) put ∙ ap flat_place (get-insert nat_cmp_total places section (Some n) s) ∙ ap (λ (k : ℕ). flat_place (cond (eq_by_cmp nat_cmp s section) (Some (Some k)) (get places s))) count in
          subst (λ (o : Option ℕ). IsSegmentAt o (get new (Segment s))) (sym there) (elim (cases_eq s section) [
            | inl is ↦ subst (λ (b : Bool). IsSegmentAt (flat_place (cond b (Some (Some end)) (get places s))) (get new (Segment s))) (sym (same_number s section is)) (segment.bs, segment.bytes, ap (λ (k : ℕ). get new (Segment k)) is ∙ segment.firm.there, segment.shut)
            | inr ne ↦ subst (λ (b : Bool). IsSegmentAt (flat_place (cond b (Some (Some end)) (get places s))) (get new (Segment s))) (sym (other_number s section ne)) (subst (λ (o : Option (List ℕ)). IsSegmentAt (place_at places s) o) (sym (rest (Segment s) (segment_plan s) (segments_apart s section ne))) (at.each s))
          ]);
      only = λ c here q no_plan.
          let from = step.each c here in
          elim (same_name q (Segment section)) [
            | inl is ↦ subst (λ (x : Name). get c x ≡ get new x) (sym is) (segment.firm.only c here ∙ sym segment.firm.there)
            | inr ne ↦ from.2.others q ne ∙ at.only from.0 from.1 q no_plan ∙ sym (rest q no_plan ne)
          ];
    }
  where
    same_number : (a b : ℕ) → a ≡ b → eq_by_cmp nat_cmp a b ≡ true
    same_number a b is = grind (arith, nat_tests)

    other_number : (a b : ℕ) → a ≢ b → eq_by_cmp nat_cmp a b ≡ false
    other_number a b ne = grind (arith, nat_tests)

-- an append that came to its end, and one that did not
pub grows_ok : {T E : Type 0} (e : SectionEntry) (x : T) (a b : Files → Type 0) → ImagesFollow (MayAdd e) a b → ImagesFollow (AddsEntry e) a b → Grows {E = E} e (Ok x) a b
grows_ok e x a b may added = record { may = may; added = added }

pub grows_err : {T E : Type 0} (e : SectionEntry) (r : Result T E) (x : E) (a b : Files → Type 0) → r ≡ Err x → ImagesFollow (MayAdd e) a b → Grows e r a b
grows_err {T = T} {E = E} e r x a b is may = record { may = may; added = subst (λ (q : Result T E). OnOk q (ImagesFollow (AddsEntry e) a b)) (sym is) tt }
