-- What a crash leaves of a file of records in each of the two steps of an append.
use Rattle.std.proofs.Common.{◌≡◌, ◌⊎◌, inl, inr, ℕ, suc, ◌+◌, List, [], ◌∷◌, ◌++◌, length, get_or, take, drop, sym, ◌∙◌, ap, arith, append_assoc, length-append, take-append-drop}
use Rattle.std.proofs.lemmas.List.{take_at, drop_at, drop_more}
use Rattle.std.proofs.lemmas.Bool.{cases_eq}
use Rattle.dkg_journal.specs.Disk.{Torn, written}
use Rattle.dkg_journal.specs.Records.{number32, record_of, spelled, AreBodies, IsBody, IsShut, Staged, bodies, behind_gate}
use Rattle.dkg_journal.proofs.Bytes.{read_spelled, shut_stops, spelled-push, short-push, length-number32}

pub shut_bodies : (least : ℕ) (bs : List (List ℕ)) (place : ℕ) (file : List ℕ) → IsShut least bs place file → bodies least (length file) file ≡ bs
shut_bodies least bs place file flat =
    let long : length file ≡ length (spelled bs) + suc (length flat.junk) = ap length flat.is ∙ length-append (spelled bs) (flat.gate ∷ flat.junk) in
    ap (bodies least (length file)) flat.is ∙ (read_spelled least bs (length file) (flat.gate ∷ flat.junk) flat.short (shut_stops least flat.gate flat.junk flat.shut) (omega (arith, long))).0

-- the front up to a gate, from what the whole is
split_front : (bs : List (List ℕ)) (place gate : ℕ) (rest file : List ℕ) → file ≡ spelled bs ++ gate ∷ rest → length (spelled bs) ≡ place → (take place file ≡ spelled bs) × (take (place + 1) file ≡ spelled bs ++ gate ∷ []) × (drop (place + 1) file ≡ rest) × (length file ≡ place + 1 + length rest)
split_front bs place gate rest file is size =
    let more : file ≡ (spelled bs ++ gate ∷ []) ++ rest = is ∙ sym (append_assoc (spelled bs) (gate ∷ []) rest) in
    let long : length (spelled bs ++ gate ∷ []) ≡ place + 1 = omega (arith, length-append (spelled bs) (gate ∷ []), size) in (
      ap (take place) is ∙ take_at (spelled bs) (gate ∷ rest) place size,
      ap (take (place + 1)) more ∙ take_at (spelled bs ++ gate ∷ []) rest (place + 1) long,
      ap (drop (place + 1)) more ∙ drop_at (spelled bs ++ gate ∷ []) rest (place + 1) long,
      omega (arith, ap length more, length-append (spelled bs ++ gate ∷ []) rest, long),
    )

-- the closed gate stands in each outcome of the first write
pub torn_behind : (least : ℕ) (bs : List (List ℕ)) (place n : ℕ) (file c : List ℕ) → IsShut least bs place file → Torn (place + 1) n file c → IsShut least bs place c
torn_behind least bs place n file c flat torn =
    let parts = split_front bs place flat.gate flat.junk file flat.is flat.size in
    record {
      gate = flat.gate;
      junk = drop (place + 1) c;
      is = sym (take-append-drop (place + 1) c) ∙ ap (λ (l : List ℕ). l ++ drop (place + 1) c) (torn.before ∙ parts.1) ∙ append_assoc (spelled bs) (flat.gate ∷ []) (drop (place + 1) c);
      shut = flat.shut;
      size = flat.size;
      short = flat.short;
    }

pub written_behind : (least : ℕ) (bs : List (List ℕ)) (body : List ℕ) (place : ℕ) (file : List ℕ) → IsShut least bs place file → IsBody least body → Staged least bs body place (written (place + 1) (behind_gate body) file)
written_behind least bs body place file flat short_body =
    let parts = split_front bs place flat.gate flat.junk file flat.is flat.size in
    let left = drop (place + 1 + length (behind_gate body)) file in
    record {
      gate = flat.gate;
      junk = left;
      is = ap (λ (l : List ℕ). l ++ behind_gate body ++ left) parts.1 ∙ simp append_assoc;
      shut = flat.shut;
      size = flat.size;
      short = flat.short;
      short_body = short_body;
    }

-- a whole record behind a gate counts or it doesn't
module _ (least : ℕ) (bs : List (List ℕ)) (body : List ℕ) (place : ℕ) (junk : List ℕ) (size : length (spelled bs) ≡ place) (short : AreBodies least bs) (short_body : IsBody least body) where
  pub opened : (c : List ℕ) → c ≡ spelled bs ++ 1 ∷ ((number32 (length body) ++ body) ++ 0 ∷ junk) → IsShut least (bs ++ body ∷ []) (place + 5 + length body) c
  opened c is = record {
    gate = 0;
    junk = junk;
    is = is ∙ sym (append_assoc (spelled bs) (record_of body) (0 ∷ junk)) ∙ ap (λ (l : List ℕ). l ++ 0 ∷ junk) (sym (spelled-push bs body));
    shut = omega arith;
    size = ap length (spelled-push bs body) ∙ omega (arith, size, length-append (spelled bs) (record_of body), length-append (number32 (length body)) body, length-number32 (length body));
    short = short-push least bs body short short_body;
  }

  pub gated : (gate : ℕ) (c : List ℕ) → c ≡ spelled bs ++ gate ∷ ((number32 (length body) ++ body) ++ 0 ∷ junk) → IsShut least bs place c ⊎ IsShut least (bs ++ body ∷ []) (place + 5 + length body) c
  gated gate c is = elim (cases_eq gate 1) [
    | inl is_open ↦ inr (opened c (is ∙ ap (λ (g : ℕ). spelled bs ++ g ∷ ((number32 (length body) ++ body) ++ 0 ∷ junk)) is_open))
    | inr shut ↦ inl (record { gate = gate; junk = (number32 (length body) ++ body) ++ 0 ∷ junk; is = is; shut = shut; size = size; short = short })
  ]

pub torn_gate : (least : ℕ) (bs : List (List ℕ)) (body : List ℕ) (place : ℕ) (file c : List ℕ) → Staged least bs body place file → Torn place 1 file c → IsShut least bs place c ⊎ IsShut least (bs ++ body ∷ []) (place + 5 + length body) c
torn_gate least bs body place file c staged torn =
    let rest = (number32 (length body) ++ body) ++ 0 ∷ staged.junk in
    let parts = split_front bs place staged.gate rest file staged.is staged.size in
    let gate = get_or c place 0 in
    let back : drop place c ≡ gate ∷ rest =
    drop_more c place 0 (omega (arith, torn.no_shorter, parts.3)) ∙ ap (λ (l : List ℕ). gate ∷ l) (torn.after (omega (arith, parts.3)) ∙ parts.2) in
    gated least bs body place staged.junk staged.size staged.short staged.short_body gate c
    (sym (take-append-drop place c) ∙ (λ i. (torn.before ∙ parts.0) i ++ back i))

pub written_gate : (least : ℕ) (bs : List (List ℕ)) (body : List ℕ) (place : ℕ) (file : List ℕ) → Staged least bs body place file → IsShut least (bs ++ body ∷ []) (place + 5 + length body) (written place (1 ∷ []) file)
written_gate least bs body place file staged =
    let rest = (number32 (length body) ++ body) ++ 0 ∷ staged.junk in
    let parts = split_front bs place staged.gate rest file staged.is staged.size in
    opened least bs body place staged.junk staged.size staged.short staged.short_body _
    ((λ i. parts.0 i ++ 1 ∷ [] ++ parts.2 i) ∙ append_assoc (spelled bs) (1 ∷ []) rest)
