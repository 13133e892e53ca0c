-- A dealer whose log a block of the chain brings has a key of 32 bits, as the log's payload was read.
use Rattle.std.proofs.Common.{◌≡◌, ◌<◌, ◌^◌, ℕ, Bool, true, false, List, [], ◌∷◌, ◌++◌, Option, Some, None, refl, sym, ◌∙◌, ap, subst, filter_map, flat_map}
use Rattle.std.specs.Prelude.{option_and_then, option_map, option_to_list, slice_get, IfSome, if◌then◌else◌}
use Rattle.std.specs.List.{AllByRecursion, cons_option}
use Rattle.dkg_values.specs.Codec.{IsBytes}
use Rattle.dkg_ceremony.specs.Schedule.{last, midpoint}
use Rattle.dkg_ceremony.specs.ValidLogs.{check_log_of}
use Rattle.dkg_ceremony.specs.declared.dealer_log.DealerLog.{DealerLog}
use Rattle.dkg_ceremony.specs.declared.round.RoundParts.{RoundParts as Round}
use Rattle.dkg_ceremony.specs.declared.signed_log.SignedDealerLog.{SignedDealerLog}
use Rattle.dkg_types.specs.Blocks as made
use Rattle.dkg_types.specs.Paths.{log_counts}
use Rattle.dkg_types.specs.PayloadCodes.{its_log}
use Rattle.dkg_infos.specs.declared.directory.Unit as directory
use Rattle.dkg_text.specs.declared.script.BlockLine.{BlockLine}
use Rattle.dkg_text.specs.declared.script.Life.{Life}
use Rattle.dkg_script.specs.Blocks.{ScriptBlock, anchor_number, numbered_block, chain, delivered_number, events_come_to, held_at_opening, used, used_in}
use Rattle.dkg_script.specs.Inclusion.{IsFormOfInclusion}
use Rattle.dkg_script.specs.Setting.{Setting, blocks_per_epoch}
use Rattle.dkg_lives.specs.Given.{AreBytes, blocks_in}
use Rattle.dkg_lives.proofs.ChainLogs.{brings_of, counted_at}
use Rattle.dkg_lives.proofs.Former.{made_there}
use Rattle.dkg_lives.proofs.Living.{holds_at}
use Rattle.dkg_lives.proofs.LogsFit.{log_read}
use Rattle.dkg_along.proofs.SeenBlocks.{made_at, seen}
use Rattle.dkg_along.proofs.Used.{in_chain}

none_some : {A : Type 0} {x : A} → ◌≡◌ {A = Option A} None (Some x) → ⊥
none_some e = cc

some_is : {A : Type 0} {x y : A} → ◌≡◌ {A = Option A} (Some x) (Some y) → x ≡ y
some_is e = cc

-- EACH BLOCK that is used has a number

all_both : {A : Type 0} (P : A → Type 0) (xs ys : List A) → AllByRecursion P xs → AllByRecursion P ys → AllByRecursion P (xs ++ ys)
all_both P [] ys one other = other
all_both P (x ∷ xs) ys one other = (one.0, all_both P xs ys one.1 other)

module _ (s : Setting) where
  abbrev IsNumbered : ScriptBlock → Type 0
  IsNumbered b = (number : ℕ) × (numbered_block s number ≡ Some b)

  all_numbered : (numbers : List ℕ) → AllByRecursion IsNumbered (filter_map (numbered_block s) numbers)
  all_numbered [] = tt
  all_numbered (number ∷ numbers) = by_block (numbered_block s number) refl (all_numbered numbers)
    where
      by_block : (o : Option ScriptBlock) → numbered_block s number ≡ o → AllByRecursion IsNumbered (filter_map (numbered_block s) numbers) → AllByRecursion IsNumbered (cons_option o (filter_map (numbered_block s) numbers))
      by_block None is rest = rest
      by_block (Some b) is rest = ((number, is), rest)

  lives_numbered : (lives : List Life) → AllByRecursion IsNumbered (flat_map (used_in s) lives)
  lives_numbered [] = tt
  lives_numbered (life ∷ lives) = all_both IsNumbered (used_in s life) (flat_map (used_in s) lives)
      (all_both IsNumbered (held_at_opening s life) (filter_map (numbered_block s) (option_to_list (option_map (λ line. line.block) life.sync) ++ filter_map delivered_number (events_come_to life.cut life.events)))
      (all_numbered (option_to_list (option_map anchor_number life.anchor) ++ life.held)) (all_numbered (option_to_list (option_map (λ line. line.block) life.sync) ++ filter_map delivered_number (events_come_to life.cut life.events))))
      (lives_numbered lives)

  used_numbered : AllByRecursion IsNumbered (used s)
  unfolding used
  used_numbered = lives_numbered s.script.lives

  module _ (form : IsFormOfInclusion s.script) (bytes : AreBytes s.script.blocks) where
    -- the chain's block at a height is one of the node's
    pub chain_made : (height : ℕ) (b : ScriptBlock) → chain s height ≡ Some b → (number : ℕ) × (its : made.Block directory.Unit) × (slice_get (blocks_in s.script) number ≡ Some its) × (seen its ≡ b)
    chain_made height b is =
        let numbered = (in_chain s IsNumbered height b used_numbered is).0 in
        let its = made_at s form bytes numbered.0 b numbered.1 in
        (numbered.0, its.0, its.1, its.2)

    log_small : (b : ScriptBlock) (signed : SignedDealerLog) → b.log ≡ Some signed → (height : ℕ) → chain s height ≡ Some b → signed.dealer < 2 ^ 32
    log_small b signed carried height is =
        let its = chain_made height b is in
        let line = (made_there s.script its.0 its.1 its.2).0 in
        let same = (made_there s.script its.0 its.1 its.2).1 in
        (log_read s.script.config (line.line).payload (holds_at (λ (line : BlockLine). IfSome line.payload IsBytes) s.script.blocks its.0 line.line bytes line.line_is) signed
        (ap (option_and_then its_log) (sym line.payload) ∙ ap (λ (x : made.Block directory.Unit). option_and_then its_log x.payload) same ∙ ap (λ (x : ScriptBlock). x.log) its.3 ∙ carried)).one

    pub keys : (epoch : ℕ) (round : Round) (height dealer : ℕ) (log : DealerLog) → brings_of s epoch round height ≡ Some (dealer, log) → dealer < 2 ^ 32
    keys epoch round height dealer log is = by_block (chain s height) refl is
      where
        by_log : (b : ScriptBlock) → chain s height ≡ Some b → (o : Option SignedDealerLog) → b.log ≡ o → counted_at s epoch round height o ≡ Some (dealer, log) → dealer < 2 ^ 32
        by_log b there None carried found = absurd (none_some found)
        by_log b there (Some signed) carried found = by_test (log_counts check_log_of (midpoint (blocks_per_epoch s) epoch) (last (blocks_per_epoch s) epoch) round (height, signed)) found
          where
            by_test : (t : Bool) → ◌≡◌ {A = Option (ℕ × DealerLog)} (if t then Some (signed.dealer, signed.log) else None) (Some (dealer, log)) → dealer < 2 ^ 32
            by_test true found = subst (λ (d : ℕ). d < 2 ^ 32) (ap (λ (p : ℕ × DealerLog). p.0) (some_is found)) (log_small b signed carried height there)
            by_test false found = absurd (none_some found)

        by_block : (o : Option ScriptBlock) → chain s height ≡ o → option_and_then (λ (b : ScriptBlock). counted_at s epoch round height b.log) o ≡ Some (dealer, log) → dealer < 2 ^ 32
        by_block None there found = absurd (none_some found)
        by_block (Some b) there found = by_log b there b.log refl found
