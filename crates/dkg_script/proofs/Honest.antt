-- The premises of the promise hold of the stored run, in each case of what the plan may have held: so what the calls promise of
-- it stands. And they hold of the scripts whose writes are cut, wherever the cuts fall.
use Rattle.std.proofs.Common.{List, [], ◌∷◌, ◌≡◌, refl, Option, Some, None, lit<, lit≤, ap, sym, subst}
use Rattle.std.specs.FinMap.{get-empty}
use Rattle.dkg_values.specs.Bytes.{byte_at}
use Rattle.dkg_values.specs.Codec.{many_at}
use Rattle.dkg_values.specs.Lists.{keys_at}
use Rattle.dkg_values.specs.Uint.{groups_at}
use Rattle.dkg_values.specs.declared.name.Name.TheVariants.{Plan}
use Rattle.dkg_ceremony.specs.Modes.{mode_at}
use Rattle.dkg_journal.specs.Names.{name_cmp}
use Rattle.dkg_journal.specs.Records.{SectionEntry}
use Rattle.dkg_infos.specs.InfoCodes.{info_output_at, parts_at}
use Rattle.dkg_infos.specs.OutcomeCodes.{outcome_after}
use Rattle.dkg_types.specs.PayloadCodes.{payload_info_at, payload_after}
use Rattle.dkg_store.specs.Pairs.{IsWhole}
use Rattle.dkg_text.specs.declared.script.Life.{Life}
use Rattle.dkg_text.specs.declared.script.Script.{Script}
use Rattle.dkg_script.proofs.Early.{IsBlockBelow, IsEarlyScript}
use Rattle.dkg_script.specs.Readings.{SyncMaterial, info_in}
use Rattle.dkg_script.specs.Setting.{Setting, CutAt}
use Rattle.dkg_script.specs.Blocks.{used}
use Rattle.dkg_script.specs.Position.{IsPlanHistory}
use Rattle.dkg_script.specs.AsCut.{setting_as_cut, with_cuts}
use Rattle.dkg_script.specs.Kept.{Kept}
use Rattle.dkg_script.specs.Progress.{Progress}
use Rattle.dkg_script.specs.Promise.{AreHonestStores, IsBuilt, IsComplete, IsHonestRun, InACase, KeepsDealings, AnswersDealings, with_plans, cuts_in}
use Rattle.dkg_script.specs.Consistent.{IsConsistentScript}
use Rattle.dkg_script.proofs.OneDealing.{two, out_two, two_is_kept, two_is_complete, other_key}
use Rattle.dkg_script.proofs.ConsistentAsCut.{honest_as_cut}
use Rattle.dkg_script.proofs.Trials.{no_plan, progress_is}
use Rattle.dkg_script.proofs.EarlyScripts.{never_back, plain_of}
use Rattle.dkg_script.proofs.EarlyWithin.{early_within}
use Rattle.dkg_script.proofs.CutWrites.{at_install, at_gate}
use Rattle.dkg_script.proofs.Worked.{script_of, genesis, setting, files_of, secrets_of, flat, OnlyThese, nothing_there}

-- BLOCK 0 is one of a script within the first epoch
pub genesis_is_early : (lives : List Life) → IsBlockBelow (script_of 8 (lit< tt) (genesis ∷ []) lives) genesis
unfolding payload_after payload_info_at parts_at info_output_at outcome_after mode_at byte_at many_at keys_at groups_at
genesis_is_early lives = (lit< tt, refl)

-- what is built reads the stored run, which stays within the first epoch
two_is_early : IsEarlyScript two
two_is_early = record {
  plain = refl;
  reshares = refl;
  own = lit< tt;
  in_bound = lit≤ tt;
  long = lit≤ tt;
  short = lit< tt;
  supported = refl;
  rising = refl;
  blocks = (genesis_is_early two.lives, tt);
  first = refl;
  lives = (record { anchor = tt; holds = refl; no_sync = refl; events = (lit< tt, tt) }, (record { anchor = tt; holds = refl; no_sync = refl; events = tt }, tt));
}

pub two_is_built : IsBuilt (setting two)
two_is_built = record { form = early_within two two_is_early; no_plan = get-empty name_cmp Plan }

-- THE SOURCE, in each case of the plan, however its lives end
built_in : (plans : List (Option SyncMaterial)) → IsBuilt (with_plans (setting two) plans)
built_in plans = record { form = two_is_built.form; no_plan = two_is_built.no_plan }

pub consistent_in : (plans : List (Option SyncMaterial)) (ends : List (Option CutAt)) → IsPlanHistory (with_plans (setting two) plans) ends → IsConsistentScript (with_plans (setting two) plans) ends
unfolding used info_in payload_after payload_info_at parts_at info_output_at outcome_after mode_at byte_at many_at keys_at groups_at
consistent_in plans ends history = record {
  one_chain = (refl, (refl, tt));
  linked = (tt, (tt, tt));
  one_info = rw (get-empty name_cmp Plan) (refl, (refl, tt));
  never_back = λ l below began. never_back (with_plans (setting two) plans) ends two_is_early (plain_of (with_plans (setting two) plans) (built_in plans)) history l began;
  others = ((other_key, tt), (tt, tt));
}

empty_stores : (script : Script) → AreHonestStores (setting script) (OnlyThese (files_of None))
empty_stores script = record {
  whole = subst (λ (es : List SectionEntry). IsWhole es (secrets_of [])) (sym nothing_there) tt;
  nothing_loose = record { only = λ c is. is };
}

pub two_is_honest : (ends : List (Option CutAt)) → IsHonestRun (setting two) (OnlyThese (files_of None)) ends
two_is_honest ends = record {
  stores = empty_stores two;
  source = λ plans history. consistent_in plans ends history;
}

-- OF CUTS WITHIN A STEP too, whether their call comes or not, and of these scripts as they were cut
install_is_early : IsEarlyScript at_install
install_is_early = record {
  plain = refl;
  reshares = refl;
  own = lit< tt;
  in_bound = lit≤ tt;
  long = lit≤ tt;
  short = lit< tt;
  supported = refl;
  rising = refl;
  blocks = (genesis_is_early at_install.lives, tt);
  first = refl;
  lives = (record { anchor = tt; holds = refl; no_sync = refl; events = (lit< tt, tt) }, (record { anchor = tt; holds = refl; no_sync = refl; events = (lit< tt, tt) }, (record { anchor = tt; holds = refl; no_sync = refl; events = tt }, tt)));
}

install_is_built : (plans : List (Option SyncMaterial)) → IsBuilt (with_plans (setting at_install) plans)
install_is_built plans = record { form = early_within at_install install_is_early; no_plan = get-empty name_cmp Plan }

install_in : (plans : List (Option SyncMaterial)) (ends : List (Option CutAt)) → IsPlanHistory (with_plans (setting at_install) plans) ends → IsConsistentScript (with_plans (setting at_install) plans) ends
unfolding used info_in payload_after payload_info_at parts_at info_output_at outcome_after mode_at byte_at many_at keys_at groups_at
install_in plans ends history = record {
  one_chain = (refl, (refl, (refl, tt)));
  linked = (tt, (tt, (tt, tt)));
  one_info = rw (get-empty name_cmp Plan) (refl, (refl, (refl, tt)));
  never_back = λ l below began. never_back (with_plans (setting at_install) plans) ends install_is_early (plain_of (with_plans (setting at_install) plans) (install_is_built plans)) history l began;
  others = ((other_key, tt), ((other_key, tt), (tt, tt)));
}

pub install_is_honest : (ends : List (Option CutAt)) → IsHonestRun (with_cuts ends (setting at_install)) (OnlyThese (files_of None)) ends
install_is_honest ends =
    honest_as_cut (setting at_install) (OnlyThese (files_of None)) ends (plain_of (setting at_install) (install_is_built []))
    (record { stores = empty_stores at_install; source = λ plans history. install_in plans ends history })

gate_is_early : IsEarlyScript at_gate
gate_is_early = record {
  plain = refl;
  reshares = refl;
  own = lit< tt;
  in_bound = lit≤ tt;
  long = lit≤ tt;
  short = lit< tt;
  supported = refl;
  rising = refl;
  blocks = (genesis_is_early at_gate.lives, tt);
  first = refl;
  lives = (record { anchor = tt; holds = refl; no_sync = refl; events = (lit< tt, tt) }, (record { anchor = tt; holds = refl; no_sync = refl; events = tt }, tt));
}

gate_is_built : (plans : List (Option SyncMaterial)) → IsBuilt (with_plans (setting at_gate) plans)
gate_is_built plans = record { form = early_within at_gate gate_is_early; no_plan = get-empty name_cmp Plan }

gate_in : (plans : List (Option SyncMaterial)) (ends : List (Option CutAt)) → IsPlanHistory (with_plans (setting at_gate) plans) ends → IsConsistentScript (with_plans (setting at_gate) plans) ends
unfolding used info_in payload_after payload_info_at parts_at info_output_at outcome_after mode_at byte_at many_at keys_at groups_at
gate_in plans ends history = record {
  one_chain = (refl, (refl, tt));
  linked = (tt, (tt, tt));
  one_info = rw (get-empty name_cmp Plan) (refl, (refl, tt));
  never_back = λ l below began. never_back (with_plans (setting at_gate) plans) ends gate_is_early (plain_of (with_plans (setting at_gate) plans) (gate_is_built plans)) history l began;
  others = ((other_key, tt), (tt, tt));
}

pub gate_is_honest : (ends : List (Option CutAt)) → IsHonestRun (with_cuts ends (setting at_gate)) (OnlyThese (files_of None)) ends
gate_is_honest ends =
    honest_as_cut (setting at_gate) (OnlyThese (files_of None)) ends (plain_of (setting at_gate) (gate_is_built []))
    (record { stores = empty_stores at_gate; source = λ plans history. gate_in plans ends history })

-- WHAT THE CALLS PROMISE of it: none of its lives is cut, so it is judged as it stands
as_it_stands : setting_as_cut two (files_of None) (secrets_of []) out_two ≡ setting two
as_it_stands = ap (λ (p : Progress). with_cuts p.cuts (setting two)) (progress_is two out_two)

pub two_keeps : KeepsDealings two (files_of None) (secrets_of []) (OnlyThese (files_of None)) (OnlyThese (files_of (Some (flat 1 0 7)))) (secrets_of (((0, 2), 23) ∷ [])) out_two
two_keeps built honest =
    subst (λ (s : Setting). InACase s (cuts_in s out_two) (λ case. Kept case out_two (OnlyThese (files_of (Some (flat 1 0 7)))) (secrets_of (((0, 2), 23) ∷ [])))) (sym as_it_stands)
    ([], no_plan two (cuts_in (setting two) out_two) refl (refl, (refl, tt)), two_is_kept)

pub two_answers : AnswersDealings two (files_of None) (secrets_of []) (OnlyThese (files_of None)) out_two
two_answers built honest = subst (λ (s : Setting). IsComplete s out_two) (sym as_it_stands) two_is_complete
