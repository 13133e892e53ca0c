-- Whether an artifact's info is the one that a block carries.
use Rattle.std.proofs.Common.{◌≡◌, ℕ, Bool, true, false, List, ◌++◌, Option, Some, None, refl, sym, ◌∙◌, ap}
use Rattle.std.specs.Prelude.{◌↔◌, IsTrue, if◌then◌else◌}
use Rattle.std.specs.Option.{option_map_or}
use Rattle.std.proofs.lemmas.List.{append_cancel_left}
use Rattle.dkg_infos.specs.InfoCodes.{info_spelling, parts_text}
use Rattle.dkg_infos.specs.declared.info.EpochInfo.{EpochInfo}
use Rattle.dkg_core.specs.Blocks as blocks
use Rattle.dkg_core.specs.Fixed.{Directories, Fixed}
use Rattle.dkg_core.specs.Live as core
use Rattle.dkg_core.specs.Same.{same_info}
use Rattle.dkg_core.proofs.Same.{infos_agree, infos_are_one}
use Rattle.dkg_verifying.specs.Concluded.{HaveSameParts}

is_false : (b : Bool) → (b ≡ true → ⊥) → b ≡ false
is_false true apart = absurd (apart refl)
is_false false apart = refl

alike : (a b : Bool) → (a ≡ true → b ≡ true) → (b ≡ true → a ≡ true) → a ≡ b
alike true b there back = sym (there refl)
alike false b there back = sym (is_false b (λ is. absurd (let h : false ≡ true = back is in cc)))

module _ {Dir : Type 0} (spelling : Dir → List ℕ) (directories : Directories Dir) (spells : directories.spelling ≡ spelling) (one other : EpochInfo Dir) where
  -- another part is another info
  pub parts_apart : (result : Bool) → IsTrue result ↔ HaveSameParts one other → result ≡ false → false ≡ same_info directories one other
  parts_apart result tests is = sym (is_false (same_info directories one other) (λ same.
      let agree = infos_agree directories one other same in
      let parts : HaveSameParts one other = record { outcome = agree.outcome; epoch = agree.epoch; output = agree.output; players = agree.players; next_players = agree.next_players } in
      absurd (let h : true ≡ false = sym (tests.1 parts) ∙ is in cc)))

  -- With the same parts, the spellings tell.
  module _ (parts : HaveSameParts one other) where
    text_is : parts_text one ≡ parts_text other
    text_is = λ i. parts_text (record one { outcome = parts.outcome i; epoch = parts.epoch i; output = parts.output i; players = parts.players i; next_players = parts.next_players i })

    same_then : info_spelling spelling one ≡ info_spelling spelling other → same_info directories one other ≡ true
    same_then spelled = infos_are_one directories one other (record {
      outcome = parts.outcome;
      epoch = parts.epoch;
      output = parts.output;
      players = parts.players;
      next_players = parts.next_players;
      directory =
          ap (λ (f : Dir → List ℕ). f one.directory) spells
          ∙ append_cancel_left (parts_text other) (spelling one.directory) (spelling other.directory) (ap (λ (l : List ℕ). l ++ spelling one.directory) (sym text_is) ∙ spelled)
          ∙ ap (λ (f : Dir → List ℕ). f other.directory) (sym spells);
    })

    spelled_then : same_info directories one other ≡ true → info_spelling spelling one ≡ info_spelling spelling other
    spelled_then same =
        let agree = infos_agree directories one other same in
        ap (λ (l : List ℕ). l ++ spelling one.directory) text_is
        ∙ ap (λ (l : List ℕ). parts_text other ++ l) (ap (λ (f : Dir → List ℕ). f one.directory) (sym spells) ∙ agree.directory ∙ ap (λ (f : Dir → List ℕ). f other.directory) spells)

    pub spellings_tell : (result : Bool) (first second : List ℕ) → first ≡ info_spelling spelling one → second ≡ info_spelling spelling other → IsTrue result ↔ (first ≡ second)
        → result ≡ same_info directories one other
    spellings_tell result first second is_first is_second tests =
        alike result (same_info directories one other) (λ is. same_then (sym is_first ∙ tests.0 is ∙ is_second)) (λ same. tests.1 (is_first ∙ spelled_then same ∙ sym is_second))

-- THE SHARE

module _ {Dir : Type 0} (c : Fixed Dir) (info : EpochInfo Dir) (made : core.Artifact Dir) where
  abbrev by_info : Option (EpochInfo Dir) → Option ℕ
  by_info its = if option_map_or (λ derived. same_info c.directories derived info) its false then made.share else None

  pub none_derived : made.info ≡ None → ◌≡◌ {A = Option ℕ} None (blocks.share_for c info made)
  none_derived none = sym (ap by_info none)

  module _ (derived : EpochInfo Dir) (is : made.info ≡ Some derived) where
    abbrev by_test : Bool → Option ℕ
    by_test same = if same then made.share else None

    pub share_taken : true ≡ same_info c.directories derived info → made.share ≡ blocks.share_for c info made
    share_taken same = ap by_test same ∙ sym (ap by_info is)

    pub share_left : false ≡ same_info c.directories derived info → ◌≡◌ {A = Option ℕ} None (blocks.share_for c info made)
    share_left apart = ap by_test apart ∙ sym (ap by_info is)
