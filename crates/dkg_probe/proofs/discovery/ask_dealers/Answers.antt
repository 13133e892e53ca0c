use Rattle.std.proofs.Common.{◌≡◌, ℕ, List, ◌++◌, map, OnOk, OnErr, ap, subst}
use Rattle.dkg_probe.specs.Acts.{IsFront}
use Rattle.dkg_probe.specs.Probing.{latest_request, with_sample}
use Rattle.dkg_probe.specs.Sampling.{Sampled, sample_forgotten}
use Rattle.dkg_probe.proofs.Asking.{asks_run}
use Rattle.dkg_probe.proofs.discovery.ask_dealers.Goals as goal

pub returns-clause-acts : goal.returns-clause-acts
returns-clause-acts g c =
    let st = c.args.state.now in
    asks_run c.args.terms.now.bootstrap.participants.dealers (with_sample c.reset.new.self st) (with_sample (sample_forgotten st.sample) st) c.send_each.result c.args.out.now.entries c.send_each.new.out.entries
    (ap (λ (s : Sampled). with_sample s st) c.reset.ensures)
    (subst (λ (dealers : List ℕ). OnOk c.send_each.result (c.send_each.new.out.entries ≡ c.args.out.now.entries ++ map latest_request dealers)) c.as_slice.ensures.items c.send_each.ensures.ok)
    (subst (λ (dealers : List ℕ). OnErr c.send_each.result (IsFront (map latest_request dealers) c.args.out.now.entries c.send_each.new.out.entries)) c.as_slice.ensures.items c.send_each.ensures.err)
