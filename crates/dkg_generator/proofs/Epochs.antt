-- A script in the making, an epoch further.
use Rattle.std.proofs.Common.{◌≡◌, ℕ, zero, suc, ◌+◌, ◌<◌, ◌==◌, Bool, true, false, List, [], ◌∷◌, ◌++◌, refl, sym, ap, subst, ◌∙◌, ◌⊎◌, inl, inr, add-one, append-nil, arith, map}
use Rattle.std.specs.Prelude.{if◌then◌else◌}
use Rattle.std.specs.List.{flat_map, range_with_len}
use Rattle.std.proofs.lemmas.Bool.{cases_Bool, eqb-true}
use Rattle.std.proofs.lemmas.List.FromFn.{map-range_with_len_more}
use Rattle.dkg_text.specs.declared.script.BlockLine.{BlockLine}
use Rattle.dkg_text.specs.declared.script.Event.{Event}
use Rattle.dkg_text.specs.declared.script.Life.{Life}
use Rattle.dkg_text.specs.declared.script.Script.{Script}
use Rattle.dkg_text.specs.declared.script.ScriptConfig.{ScriptConfig}
use Rattle.dkg_generator.specs.declared.make.Making.{Making}
use Rattle.dkg_generator.specs.declared.plan.Plan.{Plan}
use Rattle.dkg_generator.specs.Chain.{info_made_after, made_info_at}
use Rattle.dkg_generator.specs.Made.{acks_to, begin_of, blocks_with, dealings_of, epoch_blocks, events_from, events_with, first_payload, life_of, life_with, log_payloads, made_config, made_script, next_of, rest_before}
use Rattle.dkg_generator.specs.Making.{IsMaking, IsPlan}
use Rattle.dkg_generator.proofs.Holders.{epoch_is}
use Rattle.dkg_generator.proofs.Ranges.{flat_more}

-- what was written by a plan is what the info of the epoch asks
plan_blocks : (number epoch : ℕ) (plan : Plan) → IsPlan number (made_info_at number epoch) plan → blocks_with plan.first plan.next plan.logs.items epoch ≡ epoch_blocks number epoch
plan_blocks number epoch plan is =
    let first = is.first in
    let next = is.next in
    let logs = is.logs in
    let its = epoch_is number epoch in
    cc

pub plan_events : (number epoch index count : ℕ) (plan : Plan) → IsPlan number (made_info_at number epoch) plan → events_with plan.dealings.items plan.acks.items epoch index count ≡ events_from number (made_info_at number epoch) index count
plan_events number epoch index count plan is =
    let dealings = is.dealings in
    let acks = is.acks in
    let its = epoch_is number epoch in
    cc

pub blocks_further : (number epoch : ℕ) (plan : Plan) (blocks : List BlockLine) → IsPlan number (made_info_at number epoch) plan → blocks ≡ flat_map (epoch_blocks number) (range_with_len 0 epoch)
    → blocks ++ blocks_with plan.first plan.next plan.logs.items epoch ≡ flat_map (epoch_blocks number) (range_with_len 0 (epoch + 1))
blocks_further number epoch plan blocks is before =
    let more = flat_more (epoch_blocks number) 0 epoch epoch (omega arith) in
    let its = plan_blocks number epoch plan is in
    cc

-- a life before the last one goes on into its epoch
goes_on : (number epoch : ℕ) → epoch < 5 → begin_of number epoch ≡ events_from number (made_info_at number epoch) 0 16
goes_on number epoch lt =
    elim (cases_Bool (epoch == 5)) [
      | inl is ↦ absurd (let five = eqb-true epoch 5 is in omega arith)
      | inr off ↦ rw off refl
    ]

pub life_is : (number epoch : ℕ) (events begun : List Event) → epoch < 5 → events ≡ rest_before number epoch → begun ≡ events_from number (made_info_at number epoch) 0 16 → life_with number epoch (events ++ begun) ≡ life_of number epoch
unfolding life_of
life_is number epoch events begun lt rest is =
    let both : events ++ begun ≡ rest_before number epoch ++ begin_of number epoch = (let more = goes_on number epoch lt in cc) in
    ap (life_with number epoch) both

-- .. and the last one ends with the chain
pub last_life : (number : ℕ) (events : List Event) → events ≡ rest_before number 5 → life_with number 5 events ≡ life_of number 5
unfolding life_of
last_life number events rest = ap (life_with number 5) (rest ∙ sym (append-nil (rest_before number 5)))

pub lives_further : (number life : ℕ) (lives : List Life) (one : Life) → lives ≡ map (life_of number) (range_with_len 0 life) → one ≡ life_of number life → lives ++ one ∷ [] ≡ map (life_of number) (range_with_len 0 (life + 1))
lives_further number life lives one before is =
    let more = map-range_with_len_more (life_of number) 0 life life (omega arith) in
    cc

pub info_further : (number epoch : ℕ) → info_made_after number (made_info_at number epoch) ≡ made_info_at number (epoch + 1)
unfolding made_info_at
info_further number epoch = rw (add-one epoch) refl

pub rest_further : (number epoch : ℕ) → events_from number (made_info_at number epoch) 16 48 ≡ rest_before number (epoch + 1)
rest_further number epoch = rw (add-one epoch) refl

-- THE SCRIPT

abbrev pub script_with : ScriptConfig → List BlockLine → List Life → Script
script_with config blocks lives = record { addressed = false; config = config; blocks = blocks; lives = lives }

pub script_is : (number epoch : ℕ) (making : Making) (one : Life) (config : ScriptConfig) (blocks : List BlockLine) (lives : List Life) → epoch ≡ 5 → IsMaking number epoch making → config ≡ made_config → blocks ≡ making.blocks.items
    → one ≡ life_with number 5 making.events → lives ≡ making.lives.items ++ one ∷ [] → script_with config blocks lives ≡ made_script number
unfolding made_script
script_is number epoch making one config blocks lives all before configured built last followed =
    let is = subst (λ (n : ℕ). IsMaking number n making) all before in
    let life = last ∙ last_life number making.events is.events in
    let chain = built ∙ is.blocks in
    let its = followed ∙ lives_further number 5 making.lives.items one is.lives life in
    ap (λ (c : ScriptConfig). script_with c blocks lives) configured
    ∙ ap (λ (b : List BlockLine). script_with made_config b lives) chain
    ∙ ap (λ (l : List Life). script_with made_config (flat_map (epoch_blocks number) (range_with_len 0 5)) l) its
