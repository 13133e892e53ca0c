-- What a call of a pass learns from its steps.
use Rattle.std.proofs.Common.{◌≡◌, ◌↔◌, IsNone, ℕ, ◌+◌, ◌^◌, ◌<◌, true, List, [], ◌∷◌, ◌++◌, Option, Some, refl, sym, ap, ◌∙◌, subst, inl, inr, append-nil}
use Rattle.atomic_table.specs.Seated.{TableId}
use Rattle.dkg_turn.specs.declared.turn.HistoryEntry.{HistoryEntry}
use Rattle.dkg_turn.specs.declared.view.Node.{Node}
use Rattle.dkg_turn.specs.declared.view.View.{View}
use Rattle.dkg_turn.specs.History.{contains_number, calls_of, IsStamped, IsRunOfTurns, RunOf}
use Rattle.dkg_turn.specs.Known.{Lock, Known}
use Rattle.dkg_turn.specs.Passes.{IsPassOf, after_stay, Finds, CalledInTurn, Posted}
use Rattle.dkg_turn.specs.Stops.{HasStopped}
use Rattle.dkg_turn.specs.Rules.{ticket_in, drawn, holding, rested, TookNode, MayGive, known_of}
use Rattle.dkg_turn.proofs.Histories.{not_true, run_snoc, run_of_snoc, stamped_one, own_calls}

module _ {T C R : Type 0} (turns : T → C → R → T → Type 0) where
  -- the node goes back as it was
  pub gives_none : (v w : View T C R) (t : ℕ) (node node' : Node T C R) → TookNode turns t (drawn t v) node w → 0 < v.parts → node'.history.items ≡ node.history.items → node'.value ≡ node.value → MayGive turns w node'
  gives_none v w t node node' took some_part same value = subst (λ (u : View T C R). MayGive turns u node') (sym took.now) record {
    ticket = t;
    stage = refl;
    some_part = some_part;
    ext = [];
    grown = same ∙ sym (append-nil node.history.items);
    adds = inl refl;
    run = subst (λ (z : List (HistoryEntry C R) × T). RunOf turns v.start z.0 z.1) (λ i. (sym same i, sym value i)) took.run;
  }

  -- the node goes back after one turn
  pub gives_one : (v w : View T C R) (t : ℕ) (node node' : Node T C R) (e : HistoryEntry C R) → TookNode turns t (drawn t v) node w → 0 < v.parts → node'.history.items ≡ node.history.items ++ e ∷ []
      → contains_number v.numbers e.caller ≡ true → e.ticket ≡ t → turns node.value e.call e.reply node'.value → MayGive turns w node'
  gives_one v w t node node' e took some_part grown own stamp turned = subst (λ (u : View T C R). MayGive turns u node') (sym took.now) record {
    ticket = t;
    stage = refl;
    some_part = some_part;
    ext = e ∷ [];
    grown = grown;
    adds = inr (e, refl, own, stamp);
    run = subst (λ (l : List (HistoryEntry C R)). RunOf turns v.start l node'.value) (sym grown) (run_of_snoc turns v.start node.value node'.value node.history.items e took.run turned);
  }

-- a pass that contracts see as k, with this number and this view
module _ {T C R : Type 0} (turns : T → C → R → T → Type 0) (lock : Lock T) (k : Known T C R) (id : TableId) (n : ℕ) (v : View T C R) (is : known_of id n v ≡ k) where
  -- what it finds as its turn comes
  finds : (w : View T C R) (t : ℕ) (node : Node T C R) → IsPassOf lock k → TookNode turns t (drawn t v) node w → t + 1 < 2 ^ 64 → ¬ (v.exhausted ≡ true) → (v.parts ≡ 2 ^ 64 → v.drew ≡ t)
      → Finds turns lock.start t k node.history.items node.value
  finds w t node own took left not_told whole = subst (λ (z : Known T C R). Finds turns lock.start t z node.history.items node.value) is record {
    begins = took.begins;
    run = subst (λ (z : Option T). RunOf turns z node.history.items node.value) (ap (λ (z : Known T C R). z.start) is ∙ own.1) took.run;
    stamped = took.stamped;
    above = took.above;
    later = took.later;
    left = left;
    not_told = not_true v.exhausted not_told;
    whole = λ p. (whole p, took.whole p);
  }

  after : (w w' : View T C R) (t : ℕ) (log log' : List (HistoryEntry C R)) (id' : TableId) → id' ≡ id → w ≡ holding t log (drawn t v) → w' ≡ rested (ticket_in w.stage) log' w → known_of id' n w' ≡ after_stay t log' k
  after w w' t log log' id' same held back = (λ i. known_of (same i) n (back i)) ∙ (λ i. known_of id n (rested (ticket_in (held i).stage) log' (held i))) ∙ ap (after_stay t log') is

  pub called : (alike : R → R → Type 0) (w w' : View T C R) (t : ℕ) (node node' : Node T C R) (e : HistoryEntry C R) (reply : R) (id' : TableId) → IsPassOf lock k → TookNode turns t (drawn t v) node w → t + 1 < 2 ^ 64 → ¬ (v.exhausted ≡ true) → (v.parts ≡ 2 ^ 64 → v.drew ≡ t)
      → id' ≡ id → node'.history.items ≡ node.history.items ++ e ∷ [] → w' ≡ rested (ticket_in w.stage) node'.history.items w
      → e.caller ≡ n → e.ticket ≡ t → contains_number v.numbers n ≡ true → turns node.value e.call e.reply node'.value → turns node.value e.call reply node'.value → alike e.reply reply
      → CalledInTurn turns lock.start alike e.call reply k (known_of id' n w')
  called alike w w' t node node' e reply id' own took left not_told whole same grown back caller stamp mine kept given says =
      let found : Finds turns lock.start t k node.history.items node.value = finds w t node own took left not_told whole in
      let now : known_of id' n w' ≡ after_stay t (node.history.items ++ e ∷ []) k = after w w' t node.history.items (node.history.items ++ e ∷ []) id' same took.now (back ∙ ap (λ l. rested (ticket_in w.stage) l w) grown) in
      let own_number : contains_number k.numbers e.caller ≡ true = subst (λ (z : List ℕ × ℕ). contains_number z.0 z.1 ≡ true) (λ i. ((is i).numbers, sym caller i)) mine in record {
        ticket = t;
        log = node.history.items;
        before = node.value;
        after = node'.value;
        entry = e;
        found = found;
        caller = caller ∙ ap (λ (z : Known T C R). z.number) is;
        call_is = refl;
        stamp = stamp;
        kept = kept;
        given = given;
        alike = says;
        now = now;
        own = subst (λ (z : Known T C R). calls_of k.numbers z.seen ≡ calls_of k.numbers k.seen ++ e ∷ []) (sym now) (own_calls k.numbers k.seen node.history.items e found.begins own_number);
        run = subst (λ (z : Known T C R). IsRunOfTurns turns lock.start z.seen node'.value) (sym now) (run_snoc turns lock.start node.value node'.value node.history.items e found.run kept);
        stamped = subst (λ (z : Known T C R). IsStamped 0 z.next z.seen) (sym now) (stamped_one t node.history.items e stamp found.stamped);
      }

module _ {T C R M A : Type 0} (turns : T → C → R → T → Type 0) (start : T) (alike : R → R → Type 0) (told : T → ℕ → Option R) (posted : M → C) (answered : R → Option A) (stopped : T → C → R → T → Type 0) (meets : T → M → A → Type 0) where
  -- a message that was posted as a call, by the laws of the relations
  pub posts : ((before : T) (message : M) (reply : R) (after : T) (answer : A) → turns before (posted message) reply after → answered reply ≡ Some answer → meets after message answer)
      → ((before : T) (message : M) (reply : R) (after : T) → turns before (posted message) reply after → IsNone (answered reply) ↔ stopped before (posted message) reply after)
      → ((before : T) (call : C) (reply : R) (after : T) → turns before call reply after → stopped before call reply after → HasStopped turns stopped told answered after)
      → (v w : Known T C R) (message : M) (call : C) (reply : R) (answer : Option A) → call ≡ posted message → CalledInTurn turns start alike call reply v w → answer ≡ answered reply
      → Posted turns start alike told (posted message) answered stopped meets message answer v w
  posts carried answerless ends v w message call reply answer is made said = let made' : CalledInTurn turns start alike (posted message) reply v w = subst (λ (x : C). CalledInTurn turns start alike x reply v w) is made in
      let stop : IsNone answer ↔ stopped made'.before (posted message) reply made'.after = subst (λ (x : Option A). IsNone x ↔ stopped made'.before (posted message) reply made'.after) (sym said) (answerless made'.before message reply made'.after made'.given) in record {
        reply = reply;
        called = made';
        answer_is = said;
        stop = stop;
        ended = λ none. ends made'.before (posted message) reply made'.after made'.given (stop.0 none);
        met = λ a some. carried made'.before message reply made'.after a made'.given (sym said ∙ some);
      }
