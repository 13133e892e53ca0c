-- The lines of blocks and of lives have one spelling for each value.
use Rattle.std.proofs.Common.{◌≡◌, ℕ, ◌<◌, ◌≤◌, ◌^◌, ◌&&◌, Bool, true, false, cond, List, [], ◌∷◌, ◌++◌, length, decimal, Option, Some, None, Ok, Err, refl, sym, ap, subst, ◌∙◌, arith, nat_lt}
use Rattle.std.specs.Prelude.{codes, IfSome, slice_get}
use Rattle.std.specs.List.{AllByRecursion}
use Rattle.std.specs.Str.{bytes_eq}
use Rattle.std.proofs.lemmas.Bool.{and_parts, lt-ltb, ltb-true}
use Rattle.std.proofs.lemmas.Bool.Decides.{nat_tests}
use Rattle.hex.specs.Hex.{IsBytes}
use Rattle.dkg_values.specs.Rising.{rises}
use Rattle.dkg_text.specs.declared.script.Anchor.{Anchor}
use Rattle.dkg_text.specs.declared.script.Anchor.TheVariants.{Processed, Absent}
use Rattle.dkg_text.specs.declared.script.BlockLine.{BlockLine}
use Rattle.dkg_text.specs.declared.script.Cut.{Cut}
use Rattle.dkg_text.specs.declared.script.ScriptConfig.{ScriptConfig}
use Rattle.dkg_text.specs.declared.script.SyncLine.{SyncLine}
use Rattle.dkg_reading.specs.Allowed.{AreHeld, AreSomeBytes, Is32, Is64, IsAnchor, IsBlockLine, IsCut, IsSyncLine}
use Rattle.dkg_text.specs.PayloadKinds.{is_info}
use Rattle.dkg_text.specs.Fields.{bytes_field, hex_text, number_field}
use Rattle.dkg_reading.specs.Grammar.{absent_from, anchor_line_at, are_blocks, block_after, block_line_at, cut_at, cut_from, held_line_at, held_from, is_parent, is_payload, limit_of, processed_from, sync_at, sync_from}
use Rattle.dkg_reading.specs.Lines.{TextReading, begins, checked_line_at, line_at, some_read}
use Rattle.dkg_reading.specs.Rows.{all, bytes_of, dash_or, field, four, number_below, decimal_of, three}
use Rattle.dkg_reading.specs.Spells.{IsLastRow, IsLine}
use Rattle.dkg_text.specs.Writing.{anchor_line, block_line, bytes_or_dash, cut_line, with_line_feed, held_line, number_or_dash, numbers_fields, or_dash, sync_line, text_or_none}
use Rattle.dkg_reading.proofs.ConfigLaws.{is_plain, number_32_row, number_row, plain_name}
use Rattle.dkg_reading.proofs.FieldLaws.{below_or_dash_law, bytes_law, bytes_or_dash_law, number_law}
use Rattle.dkg_reading.proofs.Guards.{bind_some, if_some, some_is}
use Rattle.dkg_reading.proofs.LineLaws.{HasName, IsAmong, begins_as, begins_so, checked_law, line_law, line_named, maybe_again, maybe_among, maybe_found, maybe_keeps, read_is, some_again, some_found}
use Rattle.dkg_reading.proofs.RowLaws.{all_law, four_law, key_law, three_law}

-- BLOCKS

abbrev Blocked : Type 0
Blocked = ℕ × Option ℕ × ℕ × Option (List ℕ)

abbrev block_text : Blocked → List ℕ
block_text p = number_field p.0 ++ (number_or_dash p.1 ++ (number_field p.2 ++ bytes_or_dash p.3))

abbrev IsBlocked : Blocked → Type 0
IsBlocked p = Is64 p.0 × (IfSome p.1 Is32 × (Is64 p.2 × IfSome p.3 AreSomeBytes))

block_row : IsLastRow IsBlocked block_text (four decimal_of (dash_or (number_below (2 ^ 32))) decimal_of (dash_or bytes_of))
block_row =
    four_law Is64 decimal decimal_of number_law (λ o. IfSome o Is32) (or_dash decimal) (dash_or (number_below (2 ^ 32))) (below_or_dash_law (2 ^ 32) (omega arith))
    Is64 decimal decimal_of number_law (λ o. IfSome o AreSomeBytes) (or_dash hex_text) (dash_or bytes_of) bytes_or_dash_law

abbrev block_back : BlockLine → Blocked
block_back b = (b.height, b.parent, b.view, b.payload)

module _ (addressed : Bool) (config : ScriptConfig) where
  block_to : (done : List BlockLine) (p : Blocked) (b : BlockLine) → IsBlocked p → block_after addressed config done p ≡ Some b → IsBlockLine addressed config done b × (block_back b ≡ p)
  block_to done p b fit e =
      let made : BlockLine = record { height = p.0; parent = p.1; view = p.2; payload = p.3 } in
      let earlier = is_parent (length done) p.1 in
      let carried = is_payload addressed (limit_of config) config.max_mode.0 p.3 in
      let g = if_some (earlier && carried) (Some made) b e in
      let parts = and_parts earlier carried g.0 in
      let is : IsBlockLine addressed config done made × (block_back made ≡ p) =
      (record { height = fit.0; parent = fit.1.0; view = fit.1.1.0; payload = fit.1.1.1; earlier = parts.0; carried = parts.1 }, refl) in
      subst (λ (x : BlockLine). IsBlockLine addressed config done x × (block_back x ≡ p)) (some_is made b g.1) is

  block_from : (done : List BlockLine) (b : BlockLine) → IsBlockLine addressed config done b → IsBlocked (block_back b) × (block_after addressed config done (block_back b) ≡ Some b)
  block_from done b fit = ((fit.height, (fit.parent, (fit.view, fit.payload))), rw (fit.earlier, fit.carried) refl)

  pub blocks_law : (done : List BlockLine) → IsLine (IsBlockLine addressed config done) block_line (block_line_at addressed config done)
  unfolding block_line_at
  blocks_law done =
      checked_law IsBlocked (λ p. with_line_feed (codes "block" ++ block_text p)) (line_at (codes "block") (four decimal_of (dash_or (number_below (2 ^ 32))) decimal_of (dash_or bytes_of)))
      (line_law (codes "block") (plain_name (codes "block") refl) IsBlocked block_text (four decimal_of (dash_or (number_below (2 ^ 32))) decimal_of (dash_or bytes_of)) block_row)
      (block_after addressed config done) (IsBlockLine addressed config done) block_back (block_to done) (block_from done)

  pub block_named : (done : List BlockLine) (b : BlockLine) (rest : List ℕ) → IsBlockLine addressed config done b → HasName (codes "block") (block_line b ++ rest)
  block_named done b rest fit =
      line_named (codes "block") (plain_name (codes "block") refl) IsBlocked block_text (four decimal_of (dash_or (number_below (2 ^ 32))) decimal_of (dash_or bytes_of)) block_row (block_back b) rest
      (fit.height, (fit.parent, (fit.view, fit.payload)))

-- A NAME AND A NUMBER

pub number_line_law : (name : List ℕ) → (plain : is_plain name ≡ true) → IsLine Is64 (λ n. with_line_feed (name ++ number_field n)) (line_at name (field decimal_of))
number_line_law name plain = line_law name (plain_name name plain) Is64 number_field (field decimal_of) number_row

pub number_line_named : (name : List ℕ) → (plain : is_plain name ≡ true) → (n : ℕ) (rest : List ℕ) → Is64 n → HasName name (with_line_feed (name ++ number_field n) ++ rest)
number_line_named name plain = line_named name (plain_name name plain) Is64 number_field (field decimal_of) number_row

-- ANCHORS

index_line_law : (name : List ℕ) → (plain : is_plain name ≡ true) → IsLine Is32 (λ n. with_line_feed (name ++ number_field n)) (line_at name (field (number_below (2 ^ 32))))
index_line_law name plain = line_law name (plain_name name plain) Is32 number_field (field (number_below (2 ^ 32))) number_32_row

index_line_named : (name : List ℕ) → (plain : is_plain name ≡ true) → (n : ℕ) (rest : List ℕ) → Is32 n → HasName name (with_line_feed (name ++ number_field n) ++ rest)
index_line_named name plain = line_named name (plain_name name plain) Is32 number_field (field (number_below (2 ^ 32))) number_32_row

module _ (blocks : List BlockLine) where
  -- the positions of each name, by their numbers
  abbrev IsProcessed : Anchor → Type 0
  IsProcessed (Processed n) = Is32 n × (n < length blocks)
  IsProcessed (Absent n) = ⊥

  abbrev IsAbsent : Anchor → Type 0
  IsAbsent (Processed n) = ⊥
  IsAbsent (Absent n) = Is32 n × (absent_from blocks n ≡ Some (Absent n))

  abbrev number_in : Anchor → ℕ
  number_in (Processed n) = n
  number_in (Absent n) = n

  processed_to : (n : ℕ) (a : Anchor) → Is32 n → processed_from blocks n ≡ Some a → IsProcessed a × (number_in a ≡ n)
  processed_to n a fit e =
      let g = if_some (nat_lt n (length blocks)) (Some (Processed n)) a e in
      let below : n < length blocks = ltb-true n (length blocks) g.0 in
      subst (λ (x : Anchor). IsProcessed x × (number_in x ≡ n)) (some_is (Processed n) a g.1) ((fit, below), refl)

  processed_of : (a : Anchor) → IsProcessed a → Is32 (number_in a) × (processed_from blocks (number_in a) ≡ Some a)
  processed_of (Processed n) fit = (fit.0, rw (lt-ltb n (length blocks) fit.1) refl)
  processed_of (Absent n) fit = absurd fit

  absent_to : (n : ℕ) (a : Anchor) → Is32 n → absent_from blocks n ≡ Some a → IsAbsent a × (number_in a ≡ n)
  absent_to n a fit e =
      let b = bind_some (slice_get blocks n) (λ block. cond (nat_lt 0 block.height) (Some (Absent n)) None) a e in
      let g = if_some (nat_lt 0 b.0.height) (Some (Absent n)) a b.2 in
      let same : Absent n ≡ a = some_is (Absent n) a g.1 in
      let is : absent_from blocks n ≡ Some (Absent n) = e ∙ ap (λ (x : Anchor). Some x) (sym same) in
      subst (λ (x : Anchor). IsAbsent x × (number_in x ≡ n)) same ((fit, is), refl)

  absent_of : (a : Anchor) → IsAbsent a → Is32 (number_in a) × (absent_from blocks (number_in a) ≡ Some a)
  absent_of (Processed n) fit = absurd fit
  absent_of (Absent n) fit = fit

  processed_law : IsLine IsProcessed (λ a. with_line_feed (codes "processed" ++ number_field (number_in a))) (checked_line_at (codes "processed") (field (number_below (2 ^ 32))) (processed_from blocks))
  processed_law = checked_law Is32 (λ n. with_line_feed (codes "processed" ++ number_field n)) (line_at (codes "processed") (field (number_below (2 ^ 32)))) (index_line_law (codes "processed") refl) (processed_from blocks) IsProcessed number_in processed_to processed_of

  absents_law : IsLine IsAbsent (λ a. with_line_feed (codes "absent" ++ number_field (number_in a))) (checked_line_at (codes "absent") (field (number_below (2 ^ 32))) (absent_from blocks))
  absents_law = checked_law Is32 (λ n. with_line_feed (codes "absent" ++ number_field n)) (line_at (codes "absent") (field (number_below (2 ^ 32)))) (index_line_law (codes "absent") refl) (absent_from blocks) IsAbsent number_in absent_to absent_of

  from_processed : (a : Anchor) → IsProcessed a → IsAnchor blocks a × (with_line_feed (codes "processed" ++ number_field (number_in a)) ≡ anchor_line a)
  from_processed (Processed n) fit = (fit, refl)
  from_processed (Absent n) fit = absurd fit

  from_absent : (a : Anchor) → IsAbsent a → IsAnchor blocks a × (with_line_feed (codes "absent" ++ number_field (number_in a)) ≡ anchor_line a)
  from_absent (Processed n) fit = absurd fit
  from_absent (Absent n) fit = (fit, refl)

  pub anchor_found : (text : List ℕ) (o : Option Anchor) (rest : List ℕ) → anchor_line_at blocks text ≡ Ok (o, rest) → IfSome o (IsAnchor blocks) × (text ≡ text_or_none anchor_line o ++ rest)
  unfolding anchor_line_at
  anchor_found text o rest e = by_processed (begins (codes "processed") text) e
    where
      processed_is : (p : Option Anchor) → IfSome p IsProcessed × (text ≡ text_or_none (λ a. with_line_feed (codes "processed" ++ number_field (number_in a))) p ++ rest) → IfSome p (IsAnchor blocks) × (text ≡ text_or_none anchor_line p ++ rest)
      processed_is None f = f
      processed_is (Some a) f = let is = from_processed a f.0 in (is.0, f.1 ∙ ap (λ (l : List ℕ). l ++ rest) is.1)

      absent_is : (p : Option Anchor) → IfSome p IsAbsent × (text ≡ text_or_none (λ a. with_line_feed (codes "absent" ++ number_field (number_in a))) p ++ rest) → IfSome p (IsAnchor blocks) × (text ≡ text_or_none anchor_line p ++ rest)
      absent_is None f = f
      absent_is (Some a) f = let is = from_absent a f.0 in (is.0, f.1 ∙ ap (λ (l : List ℕ). l ++ rest) is.1)

      by_absent : (b : Bool) → cond b (some_read (checked_line_at (codes "absent") (field (number_below (2 ^ 32))) (absent_from blocks) text)) (Ok (None, text)) ≡ Ok (o, rest) → IfSome o (IsAnchor blocks) × (text ≡ text_or_none anchor_line o ++ rest)
      by_absent true e = absent_is o (some_found (codes "absent") IsAbsent (λ a. with_line_feed (codes "absent" ++ number_field (number_in a))) (checked_line_at (codes "absent") (field (number_below (2 ^ 32))) (absent_from blocks)) absents_law text o rest e)
      by_absent false e = read_is (λ (p : Option Anchor) (r : List ℕ). IfSome p (IsAnchor blocks) × (text ≡ text_or_none anchor_line p ++ r)) None o text rest e (tt, refl)

      by_processed : (b : Bool) → cond b (some_read (checked_line_at (codes "processed") (field (number_below (2 ^ 32))) (processed_from blocks) text)) (cond (begins (codes "absent") text) (some_read (checked_line_at (codes "absent") (field (number_below (2 ^ 32))) (absent_from blocks) text)) (Ok (None, text))) ≡ Ok (o, rest) → IfSome o (IsAnchor blocks) × (text ≡ text_or_none anchor_line o ++ rest)
      by_processed true e = processed_is o (some_found (codes "processed") IsProcessed (λ a. with_line_feed (codes "processed" ++ number_field (number_in a))) (checked_line_at (codes "processed") (field (number_below (2 ^ 32))) (processed_from blocks)) processed_law text o rest e)
      by_processed false e = by_absent (begins (codes "absent") text) e

  pub anchor_again : (o : Option Anchor) (rest : List ℕ) → IfSome o (IsAnchor blocks) → begins (codes "processed") rest ≡ false → begins (codes "absent") rest ≡ false → anchor_line_at blocks (text_or_none anchor_line o ++ rest) ≡ Ok (o, rest)
  unfolding anchor_line_at
  anchor_again None rest fit no_processed no_absent = rw (no_processed, no_absent) refl
  anchor_again (Some (Processed n)) rest fit no_processed no_absent =
      let named = index_line_named (codes "processed") refl n rest fit.0 in
      rw (begins_so (codes "processed") _ named)
      (some_again (codes "processed") IsProcessed (λ a. with_line_feed (codes "processed" ++ number_field (number_in a))) (checked_line_at (codes "processed") (field (number_below (2 ^ 32))) (processed_from blocks)) processed_law (Processed n) rest fit)
  anchor_again (Some (Absent n)) rest fit no_processed no_absent =
      let named = index_line_named (codes "absent") refl n rest fit.0 in
      rw (begins_as (codes "absent") (codes "processed") _ named, begins_so (codes "absent") _ named)
      (some_again (codes "absent") IsAbsent (λ a. with_line_feed (codes "absent" ++ number_field (number_in a))) (checked_line_at (codes "absent") (field (number_below (2 ^ 32))) (absent_from blocks)) absents_law (Absent n) rest fit)

-- WHAT IS HELD

abbrev pub index_each : List ℕ → Type 0
index_each ns = AllByRecursion Is32 ns

pub indexes_row : IsLastRow index_each numbers_fields (all (number_below (2 ^ 32)))
indexes_row = all_law Is32 decimal (number_below (2 ^ 32)) key_law

module _ (blocks : ℕ) where
  record AreSomeHeld (held : List ℕ) : Type 0 where
    each : AreHeld blocks held
    nonempty : 0 < length held

  held_to : (ns held : List ℕ) → index_each ns → held_from blocks ns ≡ Some held → AreSomeHeld held × (held ≡ ns)
  held_to [] held fit e = cc e
  held_to (n ∷ ns) held fit e =
      let g = if_some (rises (n ∷ ns) && are_blocks blocks (n ∷ ns)) (Some (n ∷ ns)) held e in
      let parts = and_parts (rises (n ∷ ns)) (are_blocks blocks (n ∷ ns)) g.0 in
      let is : AreSomeHeld (n ∷ ns) = record { each = record { small = fit; rising = parts.0; named = parts.1 }; nonempty = omega arith } in
      subst (λ (h : List ℕ). AreSomeHeld h × (h ≡ n ∷ ns)) (some_is (n ∷ ns) held g.1) (is, refl)

  held_of : (held : List ℕ) → AreSomeHeld held → index_each held × (held_from blocks held ≡ Some held)
  held_of [] fit = absurd (let some = fit.nonempty in omega (arith, some))
  held_of (n ∷ ns) fit = (fit.each.small, rw (fit.each.rising, fit.each.named) refl)

  held_law : IsLine AreSomeHeld (λ h. with_line_feed (codes "held" ++ numbers_fields h)) (checked_line_at (codes "held") (all (number_below (2 ^ 32))) (held_from blocks))
  held_law =
      checked_law index_each (λ h. with_line_feed (codes "held" ++ numbers_fields h)) (line_at (codes "held") (all (number_below (2 ^ 32))))
      (line_law (codes "held") (plain_name (codes "held") refl) index_each numbers_fields (all (number_below (2 ^ 32))) indexes_row) (held_from blocks) AreSomeHeld (λ h. h) held_to held_of

  some_line : (h : List ℕ) → 0 < length h → with_line_feed (codes "held" ++ numbers_fields h) ≡ held_line h
  some_line [] some = absurd (omega (arith, some))
  some_line (n ∷ ns) some = refl

  pub none_held : AreHeld blocks []
  none_held = record { small = tt; rising = refl; named = refl }

  pub held_found : (text held rest : List ℕ) → held_line_at blocks text ≡ Ok (held, rest) → AreHeld blocks held × (text ≡ held_line held ++ rest)
  unfolding held_line_at
  held_found text held rest e = by_case (begins (codes "held") text) e
    where
      by_case : (b : Bool) → cond b (checked_line_at (codes "held") (all (number_below (2 ^ 32))) (held_from blocks) text) (Ok ([], text)) ≡ Ok (held, rest) → AreHeld blocks held × (text ≡ held_line held ++ rest)
      by_case true e =
          let f = held_law.found text held rest e in
          (f.0.each, f.1 ∙ ap (λ (l : List ℕ). l ++ rest) (some_line held f.0.nonempty))
      by_case false e = read_is (λ (h r : List ℕ). AreHeld blocks h × (text ≡ held_line h ++ r)) [] held text rest e (none_held, refl)

  held_named : (n : ℕ) (ns rest : List ℕ) → AreHeld blocks (n ∷ ns) → HasName (codes "held") (held_line (n ∷ ns) ++ rest)
  held_named n ns rest fit = line_named (codes "held") (plain_name (codes "held") refl) index_each numbers_fields (all (number_below (2 ^ 32))) indexes_row (n ∷ ns) rest fit.small

  pub held_again : (held rest : List ℕ) → AreHeld blocks held → begins (codes "held") rest ≡ false → held_line_at blocks (held_line held ++ rest) ≡ Ok (held, rest)
  unfolding held_line_at
  held_again [] rest fit over = rw over refl
  held_again (n ∷ ns) rest fit over =
      rw (begins_so (codes "held") (held_line (n ∷ ns) ++ rest) (held_named n ns rest fit)) (held_law.again (n ∷ ns) rest (record { each = fit; nonempty = omega arith }))

  pub held_keeps : (other : List ℕ) → bytes_eq (codes "held") other ≡ false → (held rest : List ℕ) → AreHeld blocks held → begins other rest ≡ false → begins other (held_line held ++ rest) ≡ false
  held_keeps other apart [] rest fit over = over
  held_keeps other apart (n ∷ ns) rest fit over = begins_as (codes "held") other (held_line (n ∷ ns) ++ rest) (held_named n ns rest fit) ∙ apart

-- START MATERIAL

abbrev Synced : Type 0
Synced = List ℕ × ℕ × ℕ × ℕ

abbrev sync_text : Synced → List ℕ
sync_text p = bytes_field p.0 ++ (number_field p.1 ++ (number_field p.2 ++ number_field p.3))

abbrev IsSynced : Synced → Type 0
IsSynced p = IsBytes p.0 × (Is64 p.1 × (Is64 p.2 × Is32 p.3))

sync_row : IsLastRow IsSynced sync_text (four bytes_of decimal_of decimal_of (number_below (2 ^ 32)))
sync_row = four_law IsBytes hex_text bytes_of bytes_law Is64 decimal decimal_of number_law Is64 decimal decimal_of number_law Is32 decimal (number_below (2 ^ 32)) key_law

abbrev sync_back : SyncLine → Synced
sync_back s = (s.info, s.epoch, s.view, s.block)

module _ (addressed : Bool) (blocks : ℕ) where
  sync_to : (p : Synced) (s : SyncLine) → IsSynced p → sync_from addressed blocks p ≡ Some s → IsSyncLine addressed false blocks s × (sync_back s ≡ p)
  sync_to p s fit e =
      let made : SyncLine = record { info = p.0; epoch = p.1; view = p.2; block = p.3 } in
      let g = if_some (nat_lt p.3 blocks && is_info addressed p.0) (Some made) s e in
      let parts = and_parts (nat_lt p.3 blocks) (is_info addressed p.0) g.0 in
      let below : p.3 < blocks = ltb-true p.3 blocks parts.0 in
      let is : IsSyncLine addressed false blocks made × (sync_back made ≡ p) =
      (record { reshares = refl; bytes = fit.0; epoch = fit.1.0; view = fit.1.1.0; block = fit.1.1.1; named = below; info = parts.1 }, refl) in
      subst (λ (x : SyncLine). IsSyncLine addressed false blocks x × (sync_back x ≡ p)) (some_is made s g.1) is

  sync_of : (s : SyncLine) → IsSyncLine addressed false blocks s → IsSynced (sync_back s) × (sync_from addressed blocks (sync_back s) ≡ Some s)
  sync_of s fit = ((fit.bytes, (fit.epoch, (fit.view, fit.block))), rw (lt-ltb s.block blocks fit.named, fit.info) refl)

  syncs_law : IsLine (IsSyncLine addressed false blocks) sync_line (checked_line_at (codes "sync") (four bytes_of decimal_of decimal_of (number_below (2 ^ 32))) (sync_from addressed blocks))
  syncs_law =
      checked_law IsSynced (λ p. with_line_feed (codes "sync" ++ sync_text p)) (line_at (codes "sync") (four bytes_of decimal_of decimal_of (number_below (2 ^ 32))))
      (line_law (codes "sync") (plain_name (codes "sync") refl) IsSynced sync_text (four bytes_of decimal_of decimal_of (number_below (2 ^ 32))) sync_row)
      (sync_from addressed blocks) (IsSyncLine addressed false blocks) sync_back sync_to sync_of

  sync_named : (s : SyncLine) (rest : List ℕ) → IsSyncLine addressed false blocks s → HasName (codes "sync") (sync_line s ++ rest)
  sync_named s rest fit =
      line_named (codes "sync") (plain_name (codes "sync") refl) IsSynced sync_text (four bytes_of decimal_of decimal_of (number_below (2 ^ 32))) sync_row (sync_back s) rest (fit.bytes, (fit.epoch, (fit.view, fit.block)))

  abbrev sync_reader : List ℕ → TextReading SyncLine
  sync_reader text = checked_line_at (codes "sync") (four bytes_of decimal_of decimal_of (number_below (2 ^ 32))) (sync_from addressed blocks) text

  pub sync_found : (oneshot : Bool) (text : List ℕ) (o : Option SyncLine) (rest : List ℕ) → sync_at addressed oneshot blocks text ≡ Ok (o, rest) → IfSome o (IsSyncLine addressed oneshot blocks) × (text ≡ text_or_none sync_line o ++ rest)
  unfolding sync_at
  sync_found false text o rest e = maybe_found (codes "sync") (IsSyncLine addressed false blocks) sync_line sync_reader syncs_law text o rest e
  sync_found true text o rest e = by_case (begins (codes "sync") text) e
    where
      by_case : (b : Bool) → ◌≡◌ {A = TextReading (Option SyncLine)} (cond b (Err (length text)) (Ok (None, text))) (Ok (o, rest)) → IfSome o (IsSyncLine addressed true blocks) × (text ≡ text_or_none sync_line o ++ rest)
      by_case true e = cc e
      by_case false e = read_is (λ (p : Option SyncLine) (r : List ℕ). IfSome p (IsSyncLine addressed true blocks) × (text ≡ text_or_none sync_line p ++ r)) None o text rest e (tt, refl)

  pub sync_again : (oneshot : Bool) (o : Option SyncLine) (rest : List ℕ) → IfSome o (IsSyncLine addressed oneshot blocks) → begins (codes "sync") rest ≡ false → sync_at addressed oneshot blocks (text_or_none sync_line o ++ rest) ≡ Ok (o, rest)
  unfolding sync_at
  sync_again false o rest fit over = maybe_again (codes "sync") (IsSyncLine addressed false blocks) sync_line sync_reader syncs_law sync_named o rest fit over
  sync_again true None rest fit over = rw over refl
  sync_again true (Some s) rest fit over = absurd (let no_sync = fit.reshares in cc no_sync)

  pub sync_keeps : (oneshot : Bool) (other : List ℕ) → bytes_eq (codes "sync") other ≡ false → (o : Option SyncLine) (rest : List ℕ) → IfSome o (IsSyncLine addressed oneshot blocks) → begins other rest ≡ false → begins other (text_or_none sync_line o ++ rest) ≡ false
  sync_keeps false other apart o rest fit over = maybe_keeps (codes "sync") (IsSyncLine addressed false blocks) sync_line sync_reader syncs_law sync_named other apart o rest fit over
  sync_keeps true other apart None rest fit over = over
  sync_keeps true other apart (Some s) rest fit over = absurd (let no_sync = fit.reshares in cc no_sync)

-- CUTS

abbrev Cuts : Type 0
Cuts = ℕ × ℕ × ℕ

abbrev cut_text : Cuts → List ℕ
cut_text p = number_field p.0 ++ (number_field p.1 ++ number_field p.2)

abbrev IsCuts : Cuts → Type 0
IsCuts p = Is64 p.0 × (Is64 p.1 × Is64 p.2)

cut_row : IsLastRow IsCuts cut_text (three decimal_of decimal_of decimal_of)
cut_row = three_law Is64 decimal decimal_of number_law Is64 decimal decimal_of number_law Is64 decimal decimal_of number_law

abbrev cut_back : Cut → Cuts
cut_back c = (c.step, c.call, c.pick)

module _ (events : ℕ) where
  cut_to : (p : Cuts) (c : Cut) → IsCuts p → cut_from events p ≡ Some c → IsCut events c × (cut_back c ≡ p)
  cut_to p c fit e = by_case (nat_lt events p.0) refl e
    where
      made : Cut
      made = record { step = p.0; call = p.1; pick = p.2 }

      at_most : nat_lt events p.0 ≡ false → p.0 ≤ events
      at_most h = grind (arith, nat_tests)

      by_case : (b : Bool) → nat_lt events p.0 ≡ b → cond b None (Some made) ≡ Some c → IsCut events c × (cut_back c ≡ p)
      by_case true above e = cc e
      by_case false above e =
          let is : IsCut events made × (cut_back made ≡ p) = (record { step = fit.0; call = fit.1.0; pick = fit.1.1; within = at_most above }, refl) in
          subst (λ (x : Cut). IsCut events x × (cut_back x ≡ p)) (some_is made c e) is

  cut_of : (c : Cut) → IsCut events c → IsCuts (cut_back c) × (cut_from events (cut_back c) ≡ Some c)
  cut_of c fit =
      let within = fit.within in
      let below : nat_lt events c.step ≡ false = grind (arith, nat_tests) in
      ((fit.step, (fit.call, fit.pick)), rw below refl)

  cuts_law : IsLine (IsCut events) cut_line (checked_line_at (codes "cut") (three decimal_of decimal_of decimal_of) (cut_from events))
  cuts_law =
      checked_law IsCuts (λ p. with_line_feed (codes "cut" ++ cut_text p)) (line_at (codes "cut") (three decimal_of decimal_of decimal_of))
      (line_law (codes "cut") (plain_name (codes "cut") refl) IsCuts cut_text (three decimal_of decimal_of decimal_of) cut_row)
      (cut_from events) (IsCut events) cut_back cut_to cut_of

  cut_named : (c : Cut) (rest : List ℕ) → IsCut events c → HasName (codes "cut") (cut_line c ++ rest)
  cut_named c rest fit = line_named (codes "cut") (plain_name (codes "cut") refl) IsCuts cut_text (three decimal_of decimal_of decimal_of) cut_row (cut_back c) rest (fit.step, (fit.call, fit.pick))

  abbrev cut_reader : List ℕ → TextReading Cut
  cut_reader text = checked_line_at (codes "cut") (three decimal_of decimal_of decimal_of) (cut_from events) text

  pub cut_found : (text : List ℕ) (o : Option Cut) (rest : List ℕ) → cut_at events text ≡ Ok (o, rest) → IfSome o (IsCut events) × (text ≡ text_or_none cut_line o ++ rest)
  unfolding cut_at
  cut_found = maybe_found (codes "cut") (IsCut events) cut_line cut_reader cuts_law

  pub cut_again : (o : Option Cut) (rest : List ℕ) → IfSome o (IsCut events) → begins (codes "cut") rest ≡ false → cut_at events (text_or_none cut_line o ++ rest) ≡ Ok (o, rest)
  unfolding cut_at
  cut_again = maybe_again (codes "cut") (IsCut events) cut_line cut_reader cuts_law cut_named

  pub cut_among : (names : List (List ℕ)) (o : Option Cut) (rest : List ℕ) → IfSome o (IsCut events) → IsAmong names rest → IsAmong (codes "cut" ∷ names) (text_or_none cut_line o ++ rest)
  cut_among names = maybe_among (codes "cut") (IsCut events) cut_line cut_reader cuts_law names cut_named
