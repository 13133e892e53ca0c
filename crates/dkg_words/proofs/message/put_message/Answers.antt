use Rattle.std.proofs.Common.{ap}
use Rattle.std.specs.Prelude.{codes}
use Rattle.dkg_words.specs.Message.{fault_words}
use Rattle.dkg_words.proofs.Numbered.{around_same, around_two_same}
use Rattle.dkg_words.proofs.message.put_message.Goals as goal

pub returns-in-DetachedBlock : goal.returns-in-DetachedBlock
returns-in-DetachedBlock c =
    around_same c.put_around.result c.put_around.new.out.items c.args.out.now.items (codes "the block at height ") (codes " has another parent than the tip")
    c.height-in-DetachedBlock.inside.0 c.in-DetachedBlock.height (fault_words c.args.fault.now) c.height-in-DetachedBlock.view_is (ap fault_words c.in-DetachedBlock.is)
    c.put_around.ensures

pub returns-in-SkippedHeight : goal.returns-in-SkippedHeight
returns-in-SkippedHeight c =
    around_two_same c.put_around_two.result c.put_around_two.new.out.items c.args.out.now.items (codes "a block at height ") (codes ", where height ") (codes " is awaited")
    c.got.inside.0 c.awaited.inside.0 c.in-SkippedHeight.got c.in-SkippedHeight.awaited (fault_words c.args.fault.now) c.got.view_is c.awaited.view_is
    (ap fault_words c.in-SkippedHeight.is) c.put_around_two.ensures

pub returns-in-OutOfWindow : goal.returns-in-OutOfWindow
returns-in-OutOfWindow c =
    around_same c.put_around-in-OutOfWindow.result c.put_around-in-OutOfWindow.new.out.items c.args.out.now.items (codes "the block at height ") (codes " is outside the awaited window")
    c.height-in-OutOfWindow.inside.0 c.in-OutOfWindow.height (fault_words c.args.fault.now) c.height-in-OutOfWindow.view_is (ap fault_words c.in-OutOfWindow.is)
    c.put_around-in-OutOfWindow.ensures

pub returns-in-MissingEpochInfo : goal.returns-in-MissingEpochInfo
returns-in-MissingEpochInfo c =
    around_same c.put_around-in-MissingEpochInfo.result c.put_around-in-MissingEpochInfo.new.out.items c.args.out.now.items (codes "the block at height ") (codes " carries no info")
    c.height-in-MissingEpochInfo.inside.0 c.in-MissingEpochInfo.height (fault_words c.args.fault.now) c.height-in-MissingEpochInfo.view_is (ap fault_words c.in-MissingEpochInfo.is)
    c.put_around-in-MissingEpochInfo.ensures

pub returns-in-DirectoryMismatch : goal.returns-in-DirectoryMismatch
returns-in-DirectoryMismatch c =
    around_same c.put_around-in-DirectoryMismatch.result c.put_around-in-DirectoryMismatch.new.out.items c.args.out.now.items (codes "the directory of epoch ")
    (codes " does not match its peers") c.epoch.inside.0 c.in-DirectoryMismatch.epoch (fault_words c.args.fault.now) c.epoch.view_is (ap fault_words c.in-DirectoryMismatch.is)
    c.put_around-in-DirectoryMismatch.ensures
