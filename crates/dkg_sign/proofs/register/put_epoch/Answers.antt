use Rattle.std.proofs.Common.{◌∙◌}
use Rattle.dkg_sign.proofs.OnRecord.{put_done, put_tried, want_passed}
use Rattle.dkg_sign.proofs.register.put_epoch.Goals as goal

pub returns-in_err-put-clause-tried : goal.returns-in_err-put-clause-tried
returns-in_err-put-clause-tried g c = λ lands.
    put_tried c.args.epoch _ _ _ _ _ c.ranges.epoch.fits (c.as_slice.ensures ∙ c.in_ok-bytes.ensures) (c.put.ensures.tried lands)

pub returns-in_err-put-clause-memory : goal.returns-in_err-put-clause-memory
returns-in_err-put-clause-memory g c = λ is.
    c.in_err-put.ensures.kept (want_passed _ c.from_residual-in_err-put.result c.from_residual-in_err-put.ensures.1 is)

pub returns-clause-done : goal.returns-clause-done
returns-clause-done g c = λ tells lands.
    put_done c.args.epoch _ _ _ _ _ _ c.ranges.epoch.fits (c.as_slice.ensures ∙ c.in_ok-bytes.ensures) (c.in_ok-put.ensures.done tells lands)

pub returns-clause-tried : goal.returns-clause-tried
returns-clause-tried g c = λ lands.
    put_tried c.args.epoch _ _ _ _ _ c.ranges.epoch.fits (c.as_slice.ensures ∙ c.in_ok-bytes.ensures) (c.put.ensures.tried lands)
