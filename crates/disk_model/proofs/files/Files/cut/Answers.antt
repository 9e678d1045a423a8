use Rattle.std.proofs.Common.{arith, take}
use Rattle.disk_model.proofs.FileLemmas.{files_with}
use Rattle.disk_model.proofs.files.Files.cut.Goals as goal

pub returns : goal.returns
returns c =
    files_with _ _ c.args.file _ _ _ (take c.args.length)
    c.self.view_is (omega arith) c.index_mut-old.ensures.value c.truncate.ensures.items
