-- A second call stands under what the first left.
use Rattle.std.proofs.Common.{ℕ, List, [], ◌++◌, ◌==◌, Option, Some, Result, refl, sym, subst, ap, ◌∙◌, ◌≡◌, map, filter_map}
use Rattle.std.specs.Prelude.{None, if◌then◌else◌, option_and_then, option_to_list}
use Rattle.std.specs.FinMap.{get}
use Rattle.std.specs.List.{AllByRecursion}
use Rattle.std.specs.Result.{result_ok}
use Rattle.dkg_values.specs.declared.name.Name.TheVariants.{Plan}
use Rattle.dkg_ceremony.specs.declared.round.RoundParts.{RoundParts as Round}
use Rattle.dkg_journal.specs.Disk.{Lands}
use Rattle.dkg_journal.specs.Names.{Files}
use Rattle.dkg_secrets.specs.Secrets.{Secrets}
use Rattle.dkg_store.specs.Corrupt.{AreFit}
use Rattle.dkg_infos.specs.declared.entry.Entry.{Entry}
use Rattle.dkg_infos.specs.declared.fault.Fault.{Fault}
use Rattle.dkg_text.specs.declared.script.Script.{Script}
use Rattle.dkg_script.specs.AsCut.{as_cut, setting_as_cut, with_cuts}
use Rattle.dkg_script.specs.Blocks.{carried_infos, chain, info_at_boundary, known_in, known_info, oneshot_round, provided_material, round_at, round_by, used}
use Rattle.dkg_script.specs.Consistent.{IsConsistentScript}
use Rattle.dkg_script.specs.Promise.{AreHonestStores, cuts_in}
use Rattle.dkg_script.specs.Readings.{Info, material_in}
use Rattle.dkg_script.specs.Schedule.{last}
use Rattle.dkg_script.specs.Setting.{CutAt, Setting, blocks_per_epoch, is_oneshot, limits, me, recovered_from, setting_of}
use Rattle.dkg_script.proofs.ConsistentAsCut.{known_within}
use Rattle.dkg_run.specs.Again.{GaveBack, IsHonestCall, RunsAgain, StandsAgain}
use Rattle.dkg_promises.specs.Complete.{AreValidDevices}
use Rattle.dkg_promises.specs.GivesBack.{HoldsValid, limit_in}
use Rattle.dkg_script.specs.Valid.{AgreesWith}
use Rattle.dkg_promises.proofs.Keeping.{history_of}
use Rattle.dkg_run.proofs.Lasting.{narrowed_fit}

-- each image is one of what was left
narrows : (left image : Files → Type 0) (files : Files) → left files → Lands files image → (c : Files) → image c → left c
narrows left image files here lands c is = subst left (sym (lands.only c is)) here

none_some : {A : Type 0} {x : A} → ◌≡◌ {A = Option A} None (Some x) → ⊥
none_some e = cc

-- VALID DEVICES hold what agrees with the script, and devices that do are valid

-- An epoch's info and round are the same over devices with the same plan,
module _ (script : Script) (files other : Files) (held its : Secrets) (plan : get other Plan ≡ get files Plan) where
  abbrev one : Setting
  one = setting_of script files held

  -- the info, where the plan held this
  abbrev info_with : ℕ → Option (List ℕ) → Option Info
  info_with epoch o = known_in (filter_map (info_at_boundary one) (used one) ++ map (λ m. m.info) (filter_map (provided_material one) script.lives ++ option_to_list (option_and_then (material_in (limits one)) o))) epoch

  same_info : (epoch : ℕ) → known_info (setting_of script other its) epoch ≡ known_info one epoch
  unfolding used
  same_info epoch = ap (info_with epoch) plan

  -- .. and the round
  abbrev round_with : ℕ → Option (List ℕ) → Option Round
  round_with epoch o =
      if is_oneshot one then (if epoch == 0 then option_and_then (oneshot_round one) script.config.oneshot else None)
      else option_and_then (λ (info : Info). result_ok (round_by script epoch info))
      (if is_oneshot one then (if epoch == 0 then option_and_then (λ b. b.info) (chain one (last (blocks_per_epoch one) 0)) else None) else info_with epoch o)

  same_round : (epoch : ℕ) → round_at (setting_of script other its) epoch ≡ round_at one epoch
  unfolding round_at used
  same_round epoch = ap (round_with epoch) plan

-- .. and an info or a round of the script as it is cut is one of the script, where that is consistent
module _ (s : Setting) (cuts : List (Option CutAt)) (reshares : s.script.config.oneshot ≡ None) (one_info : AllByRecursion (λ info. known_info s info.epoch ≡ Some info) (carried_infos s)) where
  cut_info : (epoch : ℕ) (info : Info) → known_info (with_cuts cuts s) epoch ≡ Some info → known_info s epoch ≡ Some info
  cut_info epoch info is = known_within s cuts one_info epoch info is

  round_is : (t : Setting) → t.script.config.oneshot ≡ None → (epoch : ℕ) → round_at t epoch ≡ option_and_then (λ (info : Info). result_ok (round_by t.script epoch info)) (known_info t epoch)
  unfolding round_at
  round_is t no_oneshot epoch = rw no_oneshot refl

  cut_round : (epoch : ℕ) (round : Round) → round_at (with_cuts cuts s) epoch ≡ Some round → round_at s epoch ≡ Some round
  cut_round epoch round made = by_info (known_info (with_cuts cuts s) epoch) refl (sym (round_is (with_cuts cuts s) reshares epoch) ∙ made)
    where
      by_info : (o : Option Info) → known_info (with_cuts cuts s) epoch ≡ o → option_and_then (λ (info : Info). result_ok (round_by s.script epoch info)) o ≡ Some round → round_at s epoch ≡ Some round
      by_info None is none = absurd (none_some none)
      by_info (Some info) is so = round_is s reshares epoch ∙ ap (λ (o : Option Info). option_and_then (λ (i : Info). result_ok (round_by s.script epoch i)) o) (cut_info epoch info is) ∙ so

  agrees_as_cut : (files : Files) (held : Secrets) → AgreesWith s files held → AgreesWith (with_cuts cuts s) files held
  agrees_as_cut files held agrees = record {
    shares = λ epoch share info got known. agrees.shares epoch share info got (cut_info epoch info known);
    dealings = λ epoch dealer public private round low got made. agrees.dealings epoch dealer public private round low got (cut_round epoch round made);
    own = λ epoch public private round got made. agrees.own epoch public private round got (cut_round epoch round made);
  }

holds_valid : (s : Setting) (image : Files → Type 0) → AreValidDevices s image → HoldsValid s s.files s.secrets
holds_valid s image valid = record {
  passing = ((valid.stores).whole, λ key pair round low got made. (valid.agree).dealings key.0 key.1 pair.0 pair.1 round low got made);
  own = λ key pair mine got round made. (valid.agree).own key.0 pair.0 pair.1 round (ap (λ (n : ℕ). get (recovered_from s.files s.secrets) (key.0, n)) (sym mine) ∙ got) made;
  shares = λ epoch share info got known. (valid.agree).shares epoch share info got known;
}

agrees_if_held : (s : Setting) (files : Files) (held : Secrets) → HoldsValid s files held → AgreesWith s files held
agrees_if_held s files held valid = record {
  shares = λ epoch share info got known. valid.shares epoch share info got known;
  dealings = λ epoch dealer public private round low got made. (valid.passing).1 (epoch, dealer) (public, private) round low got made;
  own = λ epoch public private round got made. valid.own (epoch, me s) (public, private) refl got round made;
}

-- WHAT THE NEXT CALL finds
module _ (script : Script) (files other : Files) (held its : Secrets) (plan : get other Plan ≡ get files Plan) (image : Files → Type 0) (honest : AreHonestStores (setting_of script other its) image) (fit : AreFit (limit_in script) image) where
  finds_valid : AgreesWith (setting_of script files held) other its → AreValidDevices (setting_of script other its) image
  finds_valid agrees = record {
    stores = honest;
    fit = fit;
    agree = record {
      shares = λ epoch share info got known. agrees.shares epoch share info got (sym (same_info script files other held its plan epoch) ∙ known);
      dealings = λ epoch dealer public private round low got made. agrees.dealings epoch dealer public private round low got (sym (same_round script files other held its plan epoch) ∙ made);
      own = λ epoch public private round got made. agrees.own epoch public private round got (sym (same_round script files other held its plan epoch) ∙ made);
    };
  }

module _ {D : Type 0} (files : D → Files) (image : D → Files → Type 0) (script : Script) (result : Result (Unit {0}) Fault) (old new next : D) (held held_now : Secrets) (added : List Entry)
    (honest : IsHonestCall (setting_as_cut script (files old) held added) (image old) added) (gave : GaveBack files image script result old new held held_now added) (here : image new (files next)) (lands : Lands (files next) (image next)) where
  abbrev s : Setting
  s = setting_as_cut script (files old) held added

  abbrev t : Setting
  t = setting_of script (files old) held

  loose : Lands (files old) (image old)
  loose = honest.1.stores.nothing_loose

  plan : get (files next) Plan ≡ get (files old) Plan
  plan = gave.0.plan loose (files next) here

  stores : (other : Script) → AreHonestStores (setting_of other (files next) held_now) (image next)
  stores other = record { whole = (gave.1 honest.0 honest.1).2.durable.whole (files next) here; nothing_loose = lands }

  fits : AreFit (limit_in script) (image old) → AreFit (limit_in script) (image next)
  fits fit = narrowed_fit (limit_in script) (image new) (image next) (narrows (image new) (image next) (files next) here lands) (gave.0.fit fit)

  holds : HoldsValid s (files old) held → HoldsValid s (files next) held_now
  holds valid = gave.0.valid (honest.1.source [] (history_of s (cuts_in s added) honest.0.form honest.0.no_plan refl)) loose valid (files next) here

  uncut : (ends : List (Option CutAt)) → IsConsistentScript t ends → AreValidDevices t (image old) → AgreesWith t (files next) held_now
  uncut ends consistent valid = agrees_if_held t (files next) held_now (gave.0.valid_uncut ends consistent loose (holds_valid t (image old) valid) (files next) here)

  finds : (other : Script) → AreFit (limit_in other) (image next) → AgreesWith (setting_of other (files old) held) (files next) held_now → AreValidDevices (setting_of other (files next) held_now) (image next)
  finds other fit agrees = finds_valid other (files old) (files next) held held_now plan (image next) (stores other) fit agrees

  stands_again : StandsAgain script (setting_as_cut script (files old) held added) (image old) (image next) (files next) held_now
  stands_again = record {
    honest = stores;
    fit = fits;
    holds = holds;
    valid = λ valid. finds s.script (fits valid.fit) (agrees_if_held s (files next) held_now (holds (holds_valid s (image old) valid)));
    valid_uncut = λ ends consistent valid. finds script (fits valid.fit) (uncut ends consistent valid);
    valid_anyhow = λ ends consistent valid cuts. finds (as_cut cuts script) (fits valid.fit) (agrees_as_cut t cuts (honest.0).form.reshares consistent.one_info (files next) held_now (uncut ends consistent valid));
    no_plan = plan ∙ honest.0.no_plan;
  }

pub runs_again : {D : Type 0} (files : D → Files) (image : D → Files → Type 0) → RunsAgain files image
runs_again files image script result old new next held held_now added honest gave here lands = stands_again files image script result old new next held held_now added honest gave here lands
