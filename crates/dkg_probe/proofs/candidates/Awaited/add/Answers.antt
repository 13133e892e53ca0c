use Rattle.std.proofs.Common.{◌≡◌, ℕ, List, cond, true, false, ◌∷◌, ◌++◌, [], subst, sym, rules}
use Rattle.std.specs.BTreeMap.{is_at}
use Rattle.std.specs.BTreeSet.{contains}
use Rattle.std.specs.Ordering.{nat_cmp}
use Rattle.dkg_probe.specs.Candidates.{Candidate, is_candidate, Awaiting, IsKept, candidate_keys, has_peer}
use Rattle.dkg_probe.proofs.Apart.{kept-last}
use Rattle.dkg_probe.proofs.candidates.Awaited.add.Goals as goal

pub invariant_of-self-2 : goal.invariant_of-self-2
invariant_of-self-2 c =
    let one : Candidate = (c.args.peer, c.args.finalization) in
    let absent : has_peer c.args.peer (candidate_keys c.self.inside.asked c.self.inside.others.items) ≡ false = subst (λ (a : Awaiting). is_candidate a c.args.peer ≡ false) (sym c.self.view_is) c.requires in
    let adds : (q : ℕ) → contains nat_cmp c.insert.new.self q ≡ cond (is_at (nat_cmp c.args.peer) q) true (contains nat_cmp c.self.inside.peers q) =
    subst (λ (k : ℕ). (q : ℕ) → contains nat_cmp c.insert.new.self q ≡ cond (is_at (nat_cmp k) q) true (contains nat_cmp c.self.inside.peers q)) c.peer.view_is c.in_ok-insert.ensures.updates.0 in
    let now = kept-last c.self.inside.asked c.self.inside.others.items one c.self.inside.peers c.insert.new.self c.self.invariant absent adds in
    let items : c.push_back-pushed.new.self.items ≡ c.self.inside.others.items ++ one ∷ [] = search rules in
    subst (λ (cs : List Candidate). IsKept c.self.inside.asked cs c.insert.new.self) (sym items) now
