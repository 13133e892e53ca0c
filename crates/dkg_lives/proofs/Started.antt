-- Where a life of a script that goes over many epochs starts: its height, and whether its source holds the block that begins its epoch.
use Rattle.std.proofs.Common.{◌≡◌, ℕ, suc, ◌+◌, ◌-◌, ◌<◌, ◌==◌, ◌&&◌, ◌||◌, List, [], ◌∷◌, ◌++◌, Option, Some, None, Bool, true, false, cond, arith, refl, sym, ap, ◌∙◌, take, filter_map, map, append-nil, append_assoc}
use Rattle.std.specs.Prelude.{fold, find, max, not, is_none, is_some, nat_lt, option_and_then, option_map, option_to_list, slice_get, IfSome, if◌then◌else◌}
use Rattle.std.specs.List.{cons_option, list_any}
use Rattle.std.specs.Option.{option_map_or, option_or}
use Rattle.std.proofs.lemmas.List.{map-append}
use Rattle.std.proofs.lemmas.List.Elements.{filter_map-append}
use Rattle.std.proofs.lemmas.Option.{slice_get-map}
use Rattle.dkg_ceremony.specs.Schedule.{boundary, epoch_of, midpoint}
use Rattle.dkg_types.specs.Blocks as made
use Rattle.dkg_infos.specs.declared.directory.Unit as directory
use Rattle.dkg_text.specs.declared.script.Anchor.{Anchor}
use Rattle.dkg_text.specs.declared.script.Anchor.TheVariants.{Processed, Absent}
use Rattle.dkg_text.specs.declared.script.BlockLine.{BlockLine}
use Rattle.dkg_text.specs.declared.script.Event.{Event}
use Rattle.dkg_text.specs.declared.script.Life.{Life}
use Rattle.dkg_script.specs.Blocks.{ScriptBlock, anchor_number, numbered_block, block_of, blocks, held_at_opening, material_of_line}
use Rattle.dkg_script.specs.Epochs.{alone}
use Rattle.dkg_script.specs.Position.{awaited_epoch, floor_block, height_after_anchor, height_of_floor, lacks_boundary, material, first_height, starts_blind, starts_late, unless_outdated}
use Rattle.dkg_script.specs.Readings.{SyncMaterial}
use Rattle.dkg_script.specs.Setting.{Setting, blocks_per_epoch, found, is_oneshot}
use Rattle.dkg_core.specs.Sources.{anchored, position}
use Rattle.dkg_core.specs.Endings.{first_block, first_epoch}
use Rattle.dkg_lives.specs.Epochs.{IsAnchorAbove, IsLifeInForm}
use Rattle.dkg_lives.specs.Given.{Lived, anchor_of_line, anchor_in, at_step, blocks_in, delivered_by, numbered}
use Rattle.dkg_lives.proofs.Awaiting.{awaited}
use Rattle.dkg_lives.proofs.Delivered.{starts}
use Rattle.dkg_lives.proofs.Former.{height_at, life_in}

-- THE SCRIPT'S OWN BLOCKS stand where the made ones do

abbrev heights : List ScriptBlock → List ℕ
heights bs = map (λ (b : ScriptBlock). b.height) bs

of_lines : (s : Setting) (before : List ScriptBlock) (lines : List BlockLine)
    → heights (fold (λ before line. before ++ block_of s before line ∷ []) before lines) ≡ heights before ++ map (λ (line : BlockLine). line.height) lines
of_lines s before [] = sym (append-nil (heights before))
of_lines s before (line ∷ lines) =
    of_lines s (before ++ block_of s before line ∷ []) lines
    ∙ ap (λ (hs : List ℕ). hs ++ map (λ (line : BlockLine). line.height) lines) (map-append (λ (b : ScriptBlock). b.height) before (block_of s before line ∷ []))
    ∙ append_assoc (heights before) (line.height ∷ []) (map (λ (line : BlockLine). line.height) lines)

pub same_heights : (s : Setting) (number : ℕ) → option_map (λ (b : made.Block directory.Unit). b.height) (slice_get (blocks_in s.script) number) ≡ option_map (λ (b : ScriptBlock). b.height) (numbered_block s number)
same_heights s number =
    height_at s.script number
    ∙ sym (slice_get-map (λ (line : BlockLine). line.height) s.script.blocks number)
    ∙ sym (ap (λ (hs : List ℕ). slice_get hs number) (of_lines s [] s.script.blocks))
    ∙ slice_get-map (λ (b : ScriptBlock). b.height) (blocks s) number

the_height : {x y : ℕ} → Some x ≡ Some y → x ≡ y
the_height e = cc

-- WITHOUT MATERIAL

module _ (s : Setting) (l : ℕ) (life : Life) (no_sync : life.sync ≡ None) (none_found : found s l ≡ None) where
  pub no_material : material s l life ≡ None
  no_material = by_mode (is_oneshot s)
    where
      by_mode : (oneshot : Bool) → cond oneshot None (unless_outdated s life (option_or (option_and_then (material_of_line s) life.sync) (found s l))) ≡ None
      by_mode true = refl
      by_mode false = ap (λ (o : Option SyncMaterial). unless_outdated s life (option_or (option_and_then (material_of_line s) life.sync) o)) none_found
          ∙ ap (λ o. unless_outdated s life (option_or (option_and_then (material_of_line s) o) None)) no_sync

  pub starts_at_anchor : first_height s l life ≡ height_after_anchor s life.anchor
  starts_at_anchor = ap (λ (x : Option SyncMaterial). max (height_after_anchor s life.anchor) (height_of_floor s life x)) no_material ∙ no_more (height_after_anchor s life.anchor)
    where
      no_more : (n : ℕ) → max n 0 ≡ n
      no_more n = omega arith

  pub not_late : starts_late s l life ≡ false
  not_late = ap (λ (x : Option SyncMaterial). option_map_or (λ b. nat_lt (midpoint (blocks_per_epoch s) (epoch_of (blocks_per_epoch s) b.height)) b.height) (option_and_then (floor_block s life) x) false) no_material

  pub blind_is : starts_blind s l life ≡ lacks_boundary s l life
  blind_is = ap (λ (x : Option SyncMaterial). is_none x && lacks_boundary s l life) no_material

-- ITS HEIGHT

module _ (s : Setting) where
  pub at_anchor : (at : Option Anchor) → IfSome at (IsAnchorAbove s.script.blocks) → awaited (position (anchor_in (blocks_in s.script) at)) ≡ height_after_anchor s at
  at_anchor None above = refl
  at_anchor (Some (Processed number)) above = both (slice_get (blocks_in s.script) number) (numbered_block s number) (same_heights s number)
    where
      next : (h k : ℕ) → h ≡ k → h + 1 ≡ suc k
      next h k same = omega (arith, same)

      both : (o : Option (made.Block directory.Unit)) (p : Option ScriptBlock) → option_map (λ (b : made.Block directory.Unit). b.height) o ≡ option_map (λ (b : ScriptBlock). b.height) p
          → awaited (position (option_map (anchor_of_line (Processed number)) o)) ≡ option_map_or (λ b. suc b.height) p 0
      both None None same = refl
      both None (Some p) same = absurd (let wrong : ◌≡◌ {A = Option ℕ} None (Some p.height) = same in cc)
      both (Some o) None same = absurd (let wrong : ◌≡◌ {A = Option ℕ} (Some o.height) None = same in cc)
      both (Some o) (Some p) same = next o.height p.height (the_height same)
  at_anchor (Some (Absent number)) above = both (slice_get s.script.blocks number) (slice_get (blocks_in s.script) number) (numbered_block s number) (height_at s.script number) (same_heights s number) above
    where
      before : (h k q : ℕ) → h ≡ q → h ≡ k → 0 < q → h - 1 + 1 ≡ k
      before h k q line same some = omega (arith, line, same, some)

      both : (line : Option BlockLine) (o : Option (made.Block directory.Unit)) (p : Option ScriptBlock) → option_map (λ (b : made.Block directory.Unit). b.height) o ≡ option_map (λ (x : BlockLine). x.height) line
          → option_map (λ (b : made.Block directory.Unit). b.height) o ≡ option_map (λ (b : ScriptBlock). b.height) p → IfSome line (λ x. 0 < x.height)
          → awaited (position (option_map (anchor_of_line (Absent number)) o)) ≡ option_map_or (λ b. b.height) p 0
      both line None None lines same some = refl
      both line None (Some p) lines same some = absurd (let wrong : ◌≡◌ {A = Option ℕ} None (Some p.height) = same in cc)
      both line (Some o) None lines same some = absurd (let wrong : ◌≡◌ {A = Option ℕ} (Some o.height) None = same in cc)
      both None (Some o) (Some p) lines same some = absurd (let wrong : ◌≡◌ {A = Option ℕ} (Some o.height) None = lines in cc)
      both (Some line) (Some o) (Some p) lines same some = before o.height p.height line.height (the_height lines) (the_height same) some

-- THE BLOCK THAT BEGINS ITS EPOCH

-- whether a height is this one
abbrev is_at : (at : ℕ) → Option ℕ → Bool
is_at at o = option_map_or (λ (h : ℕ). h == at) o false

module _ (s : Setting) (at : ℕ) where
  -- whether the block of a number stands there
  abbrev stands : ℕ → Bool
  stands number = is_at at (option_map (λ (b : ScriptBlock). b.height) (numbered_block s number))

  in_script : (numbers : List ℕ) → list_any (λ b. b.height == at) (filter_map (numbered_block s) numbers) ≡ list_any stands numbers
  in_script [] = refl
  in_script (number ∷ numbers) = by_block (numbered_block s number) (in_script numbers)
    where
      by_block : (o : Option ScriptBlock) → list_any (λ b. b.height == at) (filter_map (numbered_block s) numbers) ≡ list_any stands numbers
          → list_any (λ b. b.height == at) (cons_option o (filter_map (numbered_block s) numbers)) ≡ (is_at at (option_map (λ (b : ScriptBlock). b.height) o) || list_any stands numbers)
      by_block None rest = rest
      by_block (Some b) rest = ap (λ (t : Bool). (b.height == at) || t) rest

  in_source : (numbers : List ℕ) → is_some (find (λ (b : made.Block directory.Unit). b.height == at) (numbered (blocks_in s.script) numbers)) ≡ list_any stands numbers
  in_source [] = refl
  in_source (number ∷ numbers) =
      by_block (slice_get (blocks_in s.script) number) (in_source numbers) ∙ ap (λ (o : Option ℕ). is_at at o || list_any stands numbers) (same_heights s number)
    where
      by_block : (o : Option (made.Block directory.Unit)) → is_some (find (λ (b : made.Block directory.Unit). b.height == at) (numbered (blocks_in s.script) numbers)) ≡ list_any stands numbers
          → is_some (find (λ (b : made.Block directory.Unit). b.height == at) (cons_option o (numbered (blocks_in s.script) numbers)))
          ≡ (is_at at (option_map (λ (b : made.Block directory.Unit). b.height) o) || list_any stands numbers)
      by_block None rest = rest
      by_block (Some b) rest = by_test (b.height == at)
        where
          by_test : (t : Bool) → is_some (if t then Some b else find (λ (b : made.Block directory.Unit). b.height == at) (numbered (blocks_in s.script) numbers)) ≡ (t || list_any stands numbers)
          by_test true = refl
          by_test false = rest

  any_both : (xs ys : List ℕ) → list_any stands (xs ++ ys) ≡ (list_any stands xs || list_any stands ys)
  any_both [] ys = refl
  any_both (x ∷ xs) ys = ap (λ (t : Bool). stands x || t) (any_both xs ys) ∙ again (stands x) (list_any stands xs) (list_any stands ys)
    where
      again : (a b c : Bool) → (a || (b || c)) ≡ ((a || b) || c)
      again true b c = refl
      again false b c = refl

  either_way : (xs ys : List ℕ) → list_any stands (xs ++ ys) ≡ list_any stands (ys ++ xs)
  either_way xs ys = any_both xs ys ∙ turned (list_any stands xs) (list_any stands ys) ∙ sym (any_both ys xs)
    where
      turned : (a b : Bool) → (a || b) ≡ (b || a)
      turned true true = refl
      turned true false = refl
      turned false true = refl
      turned false false = refl

  pub anchored_is : (at : Option Anchor) → anchored (anchor_in (blocks_in s.script) at) ≡ numbered (blocks_in s.script) (option_to_list (option_map anchor_number at))
  anchored_is None = refl
  anchored_is (Some (Processed number)) = by_block (slice_get (blocks_in s.script) number)
    where
      by_block : (o : Option (made.Block directory.Unit)) → anchored (option_map (anchor_of_line (Processed number)) o) ≡ cons_option o []
      by_block None = refl
      by_block (Some b) = refl
  anchored_is (Some (Absent number)) = by_block (slice_get (blocks_in s.script) number)
    where
      by_block : (o : Option (made.Block directory.Unit)) → anchored (option_map (anchor_of_line (Absent number)) o) ≡ cons_option o []
      by_block None = refl
      by_block (Some b) = refl

  nothing_came : (events : List Event) → delivered_by (blocks_in s.script) (take 0 events) ≡ []
  nothing_came [] = refl
  nothing_came (event ∷ events) = refl

  -- what the source holds as a life opens: what the life holds, and what it stands at
  pub source_is : (life : Life) → numbered (blocks_in s.script) life.held ++ (anchored (anchor_in (blocks_in s.script) life.anchor) ++ delivered_by (blocks_in s.script) (take 0 life.events))
      ≡ numbered (blocks_in s.script) (life.held ++ option_to_list (option_map anchor_number life.anchor))
  source_is life =
      ap (λ (bs : List (made.Block directory.Unit)). numbered (blocks_in s.script) life.held ++ (anchored (anchor_in (blocks_in s.script) life.anchor) ++ bs)) (nothing_came life.events)
      ∙ ap (λ (bs : List (made.Block directory.Unit)). numbered (blocks_in s.script) life.held ++ bs) (append-nil (anchored (anchor_in (blocks_in s.script) life.anchor)) ∙ anchored_is life.anchor)
      ∙ sym (filter_map-append (slice_get (blocks_in s.script)) life.held (option_to_list (option_map anchor_number life.anchor)))

  -- so one of a height is there, where the script says so
  pub held_there : (life : Life)
      → is_some (find (λ (b : made.Block directory.Unit). b.height == at) (numbered (blocks_in s.script) life.held ++ (anchored (anchor_in (blocks_in s.script) life.anchor) ++ delivered_by (blocks_in s.script) (take 0 life.events))))
      ≡ list_any (λ b. b.height == at) (held_at_opening s life)
  held_there life =
      ap (λ (bs : List (made.Block directory.Unit)). is_some (find (λ (b : made.Block directory.Unit). b.height == at) bs)) (source_is life)
      ∙ in_source (life.held ++ option_to_list (option_map anchor_number life.anchor))
      ∙ either_way life.held (option_to_list (option_map anchor_number life.anchor))
      ∙ sym (in_script (option_to_list (option_map anchor_number life.anchor) ++ life.held))

-- A LIFE

module _ (g : Lived) (here : IsLifeInForm g) where
  -- what it awaits at first
  pub awaits_at_first : awaited (position (anchor_in (blocks_in g.script) g.life.anchor)) ≡ first_height (alone g.script) g.number g.life
  awaits_at_first = at_anchor (alone g.script) g.life.anchor here.anchor ∙ sym (starts_at_anchor (alone g.script) g.number g.life (life_in g here).no_sync refl)

  pub first_epoch_is : (taken : ℕ) → first_epoch (at_step g taken) ≡ awaited_epoch (alone g.script) g.number g.life 0
  unfolding at_step
  first_epoch_is taken = ap (epoch_of (blocks_per_epoch (alone g.script))) (awaits_at_first ∙ sym (starts (alone g.script) g.number g.life))

  -- its source has the block that begins its epoch, unless the life lacks it
  pub first_block_is : is_some (first_block (at_step g 0)) ≡ not (lacks_boundary (alone g.script) g.number g.life)
  unfolding at_step
  first_block_is =
      ap (λ (epoch : ℕ). is_some ((at_step g 0).source.block (boundary (blocks_per_epoch (alone g.script)) epoch))) (first_epoch_is 0)
      ∙ held_there (alone g.script) (boundary (blocks_per_epoch (alone g.script)) (awaited_epoch (alone g.script) g.number g.life 0)) g.life
      ∙ twice (list_any (λ b. b.height == boundary (blocks_per_epoch (alone g.script)) (awaited_epoch (alone g.script) g.number g.life 0)) (held_at_opening (alone g.script) g.life))
    where
      twice : (t : Bool) → t ≡ not (not t)
      twice true = refl
      twice false = refl
