-- What a script says of a life without material is the same over any devices whose plan it finds empty.
use Rattle.std.proofs.Common.{◌≡◌, ℕ, suc, Bool, false, None, refl, sym, ap, ◌∙◌, ◌&&◌, ◌||◌, ◌==◌, length}
use Rattle.std.specs.Prelude.{fold, max, not, slice_get}
use Rattle.std.specs.List.{list_any}
use Rattle.std.specs.Option.{option_map_or}
use Rattle.dkg_ceremony.specs.Schedule.{boundary, epoch_of}
use Rattle.dkg_text.specs.declared.script.Life.{Life}
use Rattle.dkg_script.specs.Blocks.{held_at_opening}
use Rattle.dkg_script.specs.Epochs.{alone}
use Rattle.dkg_script.specs.Position.{awaited_epoch, awaited_height_after, delivered, enters_blind_at, life_follows, lacks_boundary, first_height, starts_blind, starts_late}
use Rattle.dkg_script.specs.Setting.{Setting, blocks_per_epoch, found, is_oneshot}
use Rattle.dkg_lives.proofs.Started.{blind_is, not_late, starts_at_anchor}

module _ (s : Setting) (l : ℕ) (life : Life) (no_sync : life.sync ≡ None) (none_found : found s l ≡ None) where
  abbrev a : Setting
  a = alone s.script

  start_alike : first_height s l life ≡ first_height a l life
  start_alike = starts_at_anchor s l life no_sync none_found ∙ sym (starts_at_anchor a l life no_sync refl)

  pub height_alike : (j : ℕ) → awaited_height_after s l life j ≡ awaited_height_after a l life j
  unfolding awaited_height_after
  height_alike j = ap (λ (start : ℕ). fold (λ height b. max height (suc b.height)) start (delivered s life j)) start_alike

  pub epoch_alike : (j : ℕ) → awaited_epoch s l life j ≡ awaited_epoch a l life j
  epoch_alike j = ap (epoch_of (blocks_per_epoch s)) (height_alike j)

  pub lacks_alike : lacks_boundary s l life ≡ lacks_boundary a l life
  lacks_alike = ap (λ (e : ℕ). not (list_any (λ b. b.height == boundary (blocks_per_epoch s) e) (held_at_opening s life))) (epoch_alike 0)

  blind_alike : starts_blind s l life ≡ starts_blind a l life
  blind_alike = blind_is s l life no_sync none_found ∙ lacks_alike ∙ sym (blind_is a l life no_sync refl)

  enters_alike : (e : ℕ) → enters_blind_at s l life e ≡ enters_blind_at a l life e
  enters_alike e = ap (λ (start : ℕ). (start == 0) && option_map_or (λ b. epoch_of (blocks_per_epoch s) b.height == e) (slice_get (delivered s life (length life.events)) 0) false) start_alike

  pub follows_alike : (e : ℕ) → life_follows s l life e ≡ life_follows a l life e
  follows_alike e =
      ap (λ (first : ℕ). not (is_oneshot s) && (((e == first) && (starts_late s l life || starts_blind s l life)) || (starts_blind s l life && enters_blind_at s l life e))) (epoch_alike 0)
      ∙ ap (λ (late : Bool). not (is_oneshot s) && (((e == awaited_epoch a l life 0) && (late || starts_blind s l life)) || (starts_blind s l life && enters_blind_at s l life e)))
      (not_late s l life no_sync none_found ∙ sym (not_late a l life no_sync refl))
      ∙ ap (λ (blind : Bool). not (is_oneshot s) && (((e == awaited_epoch a l life 0) && (starts_late a l life || blind)) || (blind && enters_blind_at s l life e))) blind_alike
      ∙ ap (λ (enters : Bool). not (is_oneshot s) && (((e == awaited_epoch a l life 0) && (starts_late a l life || starts_blind a l life)) || (starts_blind a l life && enters))) (enters_alike e)
