use Rattle.std.proofs.Common.{◌≡◌, ◌≤◌, ◌+◌, ◌∷◌, [], List, Result, Err, drop, get_or, refl, sym, ◌∙◌, ap, subst, arith, rules}
use Rattle.std.proofs.lemmas.List.{drop_more}
use Rattle.std.specs.Prelude.{option_map, IsTrue}
use Rattle.std.specs.FinMap as map
use Rattle.dkg_values.specs.declared.name.Name.{Name}
use Rattle.dkg_values.specs.declared.name.Name.TheVariants.{Plan}
use Rattle.dkg_journal.specs.Names.{Files}
use Rattle.dkg_journal.specs.Disk.{IsUnchanged}
use Rattle.dkg_journal.specs.declared.call.JournalError.{JournalError}
use Rattle.dkg_journal.proofs.Finding.{Along, no_segment_row, unchanged_then, along_none, along_more, along_skip, along_there, along_broken, taken_broken, err_is}
use Rattle.dkg_journal.proofs.open.find_segments.Goals as goal
use Rattle.dkg_journal.proofs.open.find_segments.Goals.{in-Segment+in_ok-bytes+in-Some+in_ok-take_in, in-Segment+in_ok-bytes+in_default-2, in_default}

pub loop-name-init : goal.loop-name-init
loop-name-init g c = record {
  same = record { same_files = refl; same_images = λ f now. now };
  later = omega arith;
  later_wants = omega arith;
  made = g.met.D.Disk.made_none _;
  along = λ tells names. along_none _ _ _ _ _ names c.new-found.ensures.waiting c.new-found.ensures.places c.new-found.ensures.mending;
}

pub returns-in_err-bytes-clause-calls : goal.returns-in_err-bytes-clause-calls
returns-in_err-bytes-clause-calls g c = g.met.D.Disk.made_more _ _ _ [] [] c.loop-name.invariant.made c.read.ensures.calls

pub returns-in_err-take_in-clause-calls : goal.returns-in_err-take_in-clause-calls
returns-in_err-take_in-clause-calls g c = g.met.D.Disk.made_more _ _ _ [] [] c.loop-name.invariant.made c.read.ensures.calls

pub loop-name-preserved : goal.loop-name-preserved
loop-name-preserved g c =
    let i = c.loop-name.name-index in
    let names = c.args.names.now in
    let old = g.D.Disk.files c.args.disk.now in
    let inv = c.loop-name.invariant in
    let apart : drop i names ≡ get_or names i Plan ∷ drop (i + 1) names = drop_more names i Plan c.loop-name-test.true in
    let along : IsTrue g.D.Disk.tells → names ≡ map.keys old → Along (map.entries old) (get_or names i Plan ∷ drop (i + 1) names) c.loop-name.found.waiting.items c.loop-name.found.places c.loop-name.found.mending.items = λ tells are. subst (λ (l : List Name). Along (map.entries old) l c.loop-name.found.waiting.items c.loop-name.found.places c.loop-name.found.mending.items) apart (inv.along tells are) in
    elim c.match-name.branch [
      | in-Segment+in_ok-bytes+in-Some+in_ok-take_in w ↦ record {
        same = subst (λ d. IsUnchanged g.D.Disk.files g.D.Disk.image c.args.disk.now d) (sym w.disk-is) (unchanged_then g.D.Disk.files g.D.Disk.image _ _ _ inv.same w.read.ensures.same);
        later = subst (λ d. g.D.Disk.faults c.args.disk.now ≤ g.D.Disk.faults d) (sym w.disk-is) (omega (arith, inv.later, w.read.ensures.counts.later));
        later_wants = subst (λ d. g.D.Disk.wants c.args.disk.now ≤ g.D.Disk.wants d) (sym w.disk-is) (omega (arith, inv.later_wants, w.read.ensures.counts.later_wants));
        made = subst (λ d. g.D.Disk.made c.args.disk.now d []) (sym w.disk-is) (g.met.D.Disk.made_more _ _ _ [] [] inv.made w.read.ensures.calls);
        along = λ tells are. subst (λ f. Along (map.entries old) (drop (i + 1) names) f.waiting.items f.places f.mending.items) (sym w.found-is)
            (along_more (map.entries old) (get_or names i Plan) (drop (i + 1) names) _ _ _ (along tells are) (map.entries_sorted old) w.in-Segment.section w.in-Segment.is w.in-Some.bytes.items
            (sym (map.get-entries old (get_or names i Plan)) ∙ ap (λ (m : Files). map.get m (get_or names i Plan)) (sym inv.same.same_files) ∙ sym (w.in_ok-bytes.ensures.bytes tells) ∙ ap (λ o. option_map (λ v. v.items) o) w.in-Some.is)
            _ _ _ w.in_ok-take_in.ensures.taken);
      }
      | in-Segment+in_ok-bytes+in_default-2 w ↦ record {
        same = subst (λ d. IsUnchanged g.D.Disk.files g.D.Disk.image c.args.disk.now d) (sym w.disk-is) (unchanged_then g.D.Disk.files g.D.Disk.image _ _ _ inv.same w.read.ensures.same);
        later = subst (λ d. g.D.Disk.faults c.args.disk.now ≤ g.D.Disk.faults d) (sym w.disk-is) (omega (arith, inv.later, w.read.ensures.counts.later));
        later_wants = subst (λ d. g.D.Disk.wants c.args.disk.now ≤ g.D.Disk.wants d) (sym w.disk-is) (omega (arith, inv.later_wants, w.read.ensures.counts.later_wants));
        made = subst (λ d. g.D.Disk.made c.args.disk.now d []) (sym w.disk-is) (g.met.D.Disk.made_more _ _ _ [] [] inv.made w.read.ensures.calls);
        along = λ tells are. absurd (along_there (map.entries old) (get_or names i Plan) (drop (i + 1) names) _ _ _ (along tells are) (map.entries_sorted old)
            (sym (map.get-entries old (get_or names i Plan)) ∙ ap (λ (m : Files). map.get m (get_or names i Plan)) (sym inv.same.same_files) ∙ sym (w.in_ok-bytes.ensures.bytes tells) ∙ ap (λ o. option_map (λ v. v.items) o) w.in_default-2.is));
      }
      | in_default w ↦ record {
        same = subst (λ d. IsUnchanged g.D.Disk.files g.D.Disk.image c.args.disk.now d) (sym w.disk-is) inv.same;
        later = subst (λ d. g.D.Disk.faults c.args.disk.now ≤ g.D.Disk.faults d) (sym w.disk-is) inv.later;
        later_wants = subst (λ d. g.D.Disk.wants c.args.disk.now ≤ g.D.Disk.wants d) (sym w.disk-is) inv.later_wants;
        made = subst (λ d. g.D.Disk.made c.args.disk.now d []) (sym w.disk-is) inv.made;
        along = λ tells are. subst (λ f. Along (map.entries old) (drop (i + 1) names) f.waiting.items f.places f.mending.items) (sym w.found-is)
            (along_skip (map.entries old) (get_or names i Plan) (drop (i + 1) names) _ _ _ (along tells are) (no_segment_row (get_or names i Plan) w.in_default.not-Segment));
      }
    ]

pub returns-in_err-take_in-clause-broken : goal.returns-in_err-take_in-clause-broken
returns-in_err-take_in-clause-broken g c = λ name place is tells are.
    let i = c.loop-name.name-index in
    let names = c.args.names.now in
    let old = g.D.Disk.files c.args.disk.now in
    let inv = c.loop-name.invariant in
    let apart : drop i names ≡ get_or names i Plan ∷ drop (i + 1) names = drop_more names i Plan c.loop-name-test.true in
    let along = subst (λ (l : List Name). Along (map.entries old) l c.loop-name.found.waiting.items c.loop-name.found.places c.loop-name.found.mending.items) apart (inv.along tells are) in
    let same : ◌≡◌ {A = Result _ JournalError} c.from_residual-in_err-take_in.result (Err c.in_err-take_in.field-0.0) = search rules in
    taken_broken c.in_err-take_in.field-0.0 name place c.in-Segment.section c.in-Some.bytes.items _ (err_is _ _ (sym same ∙ is)) c.in_err-take_in.ensures.broken (λ p broken.
    along_broken (map.entries old) (get_or names i Plan) (drop (i + 1) names) _ _ _ along (map.entries_sorted old) c.in-Segment.section c.in-Segment.is c.in-Some.bytes.items
    (sym (map.get-entries old (get_or names i Plan)) ∙ ap (λ (m : Files). map.get m (get_or names i Plan)) (sym inv.same.same_files) ∙ sym (c.in_ok-bytes.ensures.bytes tells) ∙ ap (λ o. option_map (λ v. v.items) o) c.in-Some.is) p broken)
