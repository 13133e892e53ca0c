-- A script of the form of epochs is of it however its lives were cut: up to there a life awaits the same epochs and follows the same of them.
use Rattle.std.proofs.Common.{◌≡◌, ℕ, suc, List, Option, None, refl, subst, sym, true, ◌∙◌}
use Rattle.dkg_text.specs.declared.script.Event.TheVariants.{Final}
use Rattle.dkg_text.specs.declared.script.Life.{Life}
use Rattle.dkg_text.specs.declared.script.Script.{Script}
use Rattle.dkg_script.specs.AsCut.{as_cut, life_as_cut, with_cuts}
use Rattle.dkg_script.specs.AsCutLaws.{StaysOfEpochs}
use Rattle.dkg_script.specs.Epochs.{IsEpochsEvent, IsEpochsLife, TakesEarly, alone}
use Rattle.dkg_script.specs.Position.{awaited_epoch, cut_of, life_follows}
use Rattle.dkg_script.specs.Schedule.{epoch_of}
use Rattle.dkg_script.specs.Setting.{Setting, CutAt, blocks_per_epoch, found}
use Rattle.dkg_script.proofs.AsCut.{all_within}
use Rattle.dkg_script.proofs.ConsistentAsCut.{before_it, step_of_life}
use Rattle.dkg_script.proofs.FollowsAsCut.{epoch_as_cut, follows_as_cut}
use Rattle.dkg_script.proofs.InclusionAsCut.{at_its_index}

module _ (s : Setting) (ends : List (Option CutAt)) (l : ℕ) (life : Life) (no_sync : life.sync ≡ None) (none : found s l ≡ None) (end : Option CutAt) where
  abbrev t : Setting
  t = with_cuts ends s

  abbrev shorter : Life
  shorter = life_as_cut end life

  takes_as_cut : TakesEarly s l life → TakesEarly (with_cuts ends s) l (life_as_cut end life)
  takes_as_cut takes j number b event comes there late awaited =
      let its = step_of_life end life (suc j) (Final number) event in
      let before = before_it j end its.1 in
      let here : epoch_of (blocks_per_epoch s) b.height ≡ awaited_epoch s l life j = awaited ∙ epoch_as_cut s ends l life no_sync none end j before in
      let taken : life_follows s l life (awaited_epoch s l life j) ≡ true =
      subst (λ (epoch : ℕ). life_follows s l life epoch ≡ true) here (takes j number b its.0 comes there late here) in
      subst (λ (epoch : ℕ). life_follows t l shorter epoch ≡ true) (sym here) (follows_as_cut s ends l life no_sync none end j before ∙ taken)

life_cut : (ends : List (Option CutAt)) (script : Script) (l : ℕ) (end : Option CutAt) (life : Life) → IsEpochsLife script l life → IsEpochsLife (as_cut ends script) l (life_as_cut end life)
life_cut ends script l end life its = record {
  anchor = its.anchor;
  no_sync = its.no_sync;
  events = all_within (IsEpochsEvent script.blocks) end life.events its.events;
  takes = takes_as_cut (alone script) ends l life its.no_sync refl end its.takes;
}

pub epochs_as_cut : StaysOfEpochs
epochs_as_cut ends script form = record {
  plain = form.plain;
  reshares = form.reshares;
  own = form.own;
  in_bound = form.in_bound;
  short = form.short;
  blocks = form.blocks;
  placed = form.placed;
  lives = λ l. at_its_index ends script.lives l (IsEpochsLife (as_cut ends script) l) (λ life is. life_cut ends script l (cut_of ends l) life (form.lives l life is));
}
