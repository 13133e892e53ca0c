-- What a look at the serving word tells a pass that waits.
use Rattle.std.proofs.Common.{◌≡◌, ◌≢◌, ℕ, List, [], ◌∷◌, Option, Some, sym, ap, ◌∙◌, subst, MatchBool, eq-eqb, ne_eqb}
use mathlib.Core.Option.{none}
use Rattle.atomic_table.specs.Table.{Me, step, rest}
use Rattle.dkg_turn.specs.declared.view.Node.{Node}
use Rattle.dkg_turn.specs.declared.view.View.{View}
use Rattle.dkg_turn.specs.declared.view.Stage.TheVariants.{Waits}
use Rattle.dkg_turn.specs.Rules.{ticket_in, TookNode, came}

module _ {T C R : Type 0} (turns : T → C → R → T → Type 0) where
  pub came_here : (m m' : Me (Option (Node T C R)) (View T C R)) (r t : ℕ) → m.0.stage ≡ Waits t → r ≡ t → came turns (step 0 0 0 0 none) m r m'
      → (node : Node T C R) × (m'.1 ≡ (0, Some node) ∷ []) × TookNode turns t m.0 node m'.0
  came_here m m' r t waits hit h = let mine : ticket_in m.0.stage ≡ t = ap ticket_in waits in
      subst (λ (t : ℕ). (node : Node T C R) × (m'.1 ≡ (0, Some node) ∷ []) × TookNode turns t m.0 node m'.0) mine
      (subst (λ b. MatchBool b ((node : Node T C R) × (m'.1 ≡ (0, Some node) ∷ []) × TookNode turns (ticket_in m.0.stage) m.0 node m'.0) (m' ≡ m)) (eq-eqb r (ticket_in m.0.stage) (hit ∙ sym mine)) h)

  pub came_not : (m m' : Me (Option (Node T C R)) (View T C R)) (r t : ℕ) → m.0.stage ≡ Waits t → r ≢ t → came turns (step 0 0 0 0 none) m r m' → m' ≡ m
  came_not m m' r t waits miss h = let mine : ticket_in m.0.stage ≡ t = ap ticket_in waits in
      subst (λ b. MatchBool b ((node : Node T C R) × (m'.1 ≡ (0, Some node) ∷ []) × TookNode turns (ticket_in m.0.stage) m.0 node m'.0) (m' ≡ m)) (ne_eqb r (ticket_in m.0.stage) (λ e. miss (e ∙ mine))) h

  pub with_rest : (l : List (ℕ × Option (Node T C R))) (node : Node T C R) → l ≡ (0, Some node) ∷ [] → l ≡ (0, Some node) ∷ rest l
  with_rest l node e = e ∙ ap (λ (r : List (ℕ × Option (Node T C R))). (0, Some node) ∷ r) (sym (ap rest e))
