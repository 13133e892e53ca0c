-- The entries of a dealer's log, as bytes.
use Rattle.std.proofs.Common.{◌≡◌, ℕ, zero, suc, ◌+◌, ◌^◌, ◌<◌, ◌≤◌, List, [], ◌∷◌, ◌++◌, length, get_or, take, Err, refl, sym, ap, ◌∙◌, append_assoc, add-one, arith, length-append}
use Rattle.std.specs.List.{flat_map, AllByRecursion}
use Rattle.std.proofs.lemmas.List.{take_all}
use Rattle.std.proofs.lemmas.List.Concat.{flat_map-cons}
use Rattle.std.specs.Int.{w16, to_be_bytes}
use Rattle.dkg_values.specs.declared.codec.CodecError.TheVariants.{InvalidEnum}
use Rattle.dkg_values.specs.Bytes.{bytes_at, bytes_grammar, HasTag, tagged, tagged_at, tagged_grammar}
use Rattle.dkg_values.specs.Codec.{Reading, ◌>>=◌, IsGrammar, many_at}
use Rattle.dkg_values.specs.Grammar.{bind_ok}
use Rattle.dkg_values.specs.Joined.{seen_at}
use Rattle.dkg_values.specs.Lists.{count_at, element_at}
use Rattle.dkg_values.specs.ListGrammar.{element_grammar, count_found, count_again, many_found, many_again}
use Rattle.dkg_values.specs.Uint.{uint}
use Rattle.dkg_ceremony.specs.declared.log_entry.LogEntry.{LogEntry}
use Rattle.dkg_ceremony.specs.declared.log_entry.LogEntry.TheVariants.{Ack, Reveal}
use Rattle.dkg_ceremony.specs.Variants.{MadeOf, variant_grammar, none_grammar}

-- ---- one entry

abbrev pub entry_tag : LogEntry → ℕ
entry_tag (Ack ack) = 0
entry_tag (Reveal private) = 1

abbrev pub entry_body : LogEntry → List ℕ
entry_body (Ack ack) = ack
entry_body (Reveal private) = to_be_bytes w16 private

abbrev pub entry_spelling : LogEntry → List ℕ
entry_spelling = tagged entry_tag entry_body

-- a mark, or an element
abbrev pub EntryFits : LogEntry → Type 0
EntryFits (Ack ack) = length ack ≡ 8
EntryFits (Reveal private) = private < 65521

abbrev pub ack_entry : List ℕ → LogEntry
ack_entry ack = Ack ack

abbrev pub reveal_entry : ℕ → LogEntry
reveal_entry private = Reveal private

unfoldable pub entry_after : ℕ → List ℕ → Reading LogEntry
entry_after zero = seen_at ack_entry (bytes_at 8)
entry_after (suc zero) = seen_at reveal_entry element_at
entry_after (suc (suc tag)) = λ _. Err (InvalidEnum (suc (suc tag)))

abbrev pub entry_at : List ℕ → Reading LogEntry
entry_at = tagged_at entry_after

abbrev pub IsMark : List ℕ → Type 0
IsMark bytes = length bytes ≡ 8

abbrev pub IsElement : ℕ → Type 0
IsElement n = n < 65521

is_ack : (e : LogEntry) → EntryFits e → entry_tag e ≡ 0 → MadeOf IsMark ack_entry e
is_ack (Ack ack) fit e = record { of = ack; fit = fit; is = refl }
is_ack (Reveal private) fit e = absurd cc

is_reveal : (e : LogEntry) → EntryFits e → entry_tag e ≡ 1 → MadeOf IsElement reveal_entry e
is_reveal (Ack ack) fit e = absurd cc
is_reveal (Reveal private) fit e = record { of = private; fit = fit; is = refl }

neither : (tag : ℕ) (e : LogEntry) → entry_tag e ≡ suc (suc tag) → ⊥
neither tag (Ack ack) e = cc
neither tag (Reveal private) e = cc

after_grammar : (tag : ℕ) → IsGrammar (HasTag EntryFits entry_tag tag) entry_body (entry_after tag)
unfolding entry_after
after_grammar zero =
    variant_grammar IsMark (λ (bytes : List ℕ). bytes) (bytes_at 8) ack_entry EntryFits entry_tag entry_body 0 (bytes_grammar 8)
    (record { there = λ a fit. fit; tag_is = λ a. refl; body_is = λ a. refl; back = is_ack })
after_grammar (suc zero) =
    variant_grammar IsElement (to_be_bytes w16) element_at reveal_entry EntryFits entry_tag entry_body 1 element_grammar
    (record { there = λ a fit. fit; tag_is = λ a. refl; body_is = λ a. refl; back = is_reveal })
after_grammar (suc (suc tag)) = none_grammar EntryFits entry_tag entry_body (suc (suc tag)) (InvalidEnum (suc (suc tag))) (neither tag)

pub entry_grammar : IsGrammar EntryFits entry_spelling entry_at
entry_grammar = tagged_grammar EntryFits entry_tag entry_body entry_after after_grammar

-- ---- entries, perhaps none

abbrev pub entries_spelling : List LogEntry → List ℕ
entries_spelling entries = uint (length entries) ++ flat_map entry_spelling entries

abbrev pub entries_at : ℕ → List ℕ → Reading (List LogEntry)
entries_at most bytes = count_at 0 most bytes >>= λ n. many_at entry_at n.0 n.1

pub record EntriesFit (most : ℕ) (entries : List LogEntry) : Type 0 where
  pub in_bound : length entries ≤ most
  pub small : length entries < 2 ^ 32
  pub each : AllByRecursion EntryFits entries

pub entries_grammar : (most : ℕ) → IsGrammar (EntriesFit most) entries_spelling (entries_at most)
entries_grammar most = record {
  found = λ bytes xs rest are e.
      let b = bind_ok (count_at 0 most bytes) (λ n. many_at entry_at n.0 n.1) (xs, rest) e in
      let c = count_found 0 most bytes b.0.0 b.0.1 are b.1 in
      let k = many_found EntryFits entry_spelling entry_at entry_grammar b.0.0 b.0.1 xs rest c.left b.2 in (
        record { in_bound = omega (arith, k.count, c.below); small = omega (arith, k.count, c.small); each = k.fit },
        c.parts ∙ ap (λ (x : List ℕ). uint b.0.0 ++ x) k.parts ∙ sym (append_assoc (uint b.0.0) (flat_map entry_spelling xs) rest) ∙ ap (λ (n : ℕ). (uint n ++ flat_map entry_spelling xs) ++ rest) (sym k.count),
      );
  again = λ xs rest fits.
      ap (entries_at most) (append_assoc (uint (length xs)) (flat_map entry_spelling xs) rest)
      ∙ rw (count_again 0 most (length xs) (flat_map entry_spelling xs ++ rest) (omega arith) fits.in_bound fits.small, many_again EntryFits entry_spelling entry_at entry_grammar xs rest fits.each) refl;
}

-- ---- how long they are

abbrev pub entries_size : List LogEntry → ℕ
entries_size [] = 0
entries_size (e ∷ es) = length (entry_spelling e) + entries_size es

entries_size-is : (entries : List LogEntry) → length (flat_map entry_spelling entries) ≡ entries_size entries
entries_size-is [] = refl
entries_size-is (e ∷ es) = omega (arith, entries_size-is es, ap length (flat_map-cons entry_spelling e es), length-append (entry_spelling e) (flat_map entry_spelling es))

length_entries : (entries : List LogEntry) → length (entries_spelling entries) ≡ length (uint (length entries)) + entries_size entries
length_entries entries = omega (arith, entries_size-is entries, length-append (uint (length entries)) (flat_map entry_spelling entries))

size_step : (es : List LogEntry) (i : ℕ) (d : LogEntry) → i < length es → entries_size (take (suc i) es) ≡ entries_size (take i es) + length (entry_spelling (get_or es i d))
size_step [] i d lt = absurd (omega arith)
size_step (e ∷ es) zero d lt = omega arith
size_step (e ∷ es) (suc i) d lt = omega (arith, size_step es i d (omega arith))

pub entries_size_more : (es : List LogEntry) (i : ℕ) (d : LogEntry) → i < length es → entries_size (take (i + 1) es) ≡ entries_size (take i es) + length (entry_spelling (get_or es i d))
entries_size_more es i d lt = rw add-one (size_step es i d lt)

pub size_done : (entries : List LogEntry) (size i : ℕ) → length entries ≤ i → size ≡ length (uint (length entries)) + entries_size (take i entries) → size ≡ length (entries_spelling entries)
size_done entries size i le is = omega (arith, is, ap entries_size (take_all i entries le), length_entries entries)
