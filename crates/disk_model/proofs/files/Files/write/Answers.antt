use Rattle.std.proofs.Common.{arith}
use Rattle.disk_model.specs.Past.{written}
use Rattle.disk_model.proofs.FileLemmas.{files_with}
use Rattle.disk_model.proofs.files.Files.write.Goals as goal

pub returns : goal.returns
returns c =
    files_with _ _ c.args.file _ _ _ (λ old. written old c.args.at c.args.bytes.now)
    c.self.view_is (omega arith) c.index_mut-old.ensures.value c.overwrite.ensures.bytes
