use Rattle.std.proofs.Common.{◌≡◌}
use Rattle.app_image.specs.Image.{ImageRecord}
use Rattle.inject_list.specs.Lists.{ListRecord}
use Rattle.kern_base.specs.declared.kinds.Method.TheVariants.{Direct, Deferred}
use Rattle.served.specs.Served.{program_serves}
use Rattle.machine_model.specs.Run.{Run, history}
use Rattle.program_model.specs.Both.{run_of}
use Rattle.ucos_top.proofs.both.histories_agree.Goals as goal

-- the law, with the services of the program; equal histories have equal counts
pub returns : goal.returns
unfolding run_of
returns c held =
    let image : ImageRecord = c.args.image.now in
    let list : ListRecord = c.args.list.now in
    let deferred : Run = run_of Deferred image list c.args.count in
    let direct : Run = run_of Direct image list c.args.count in
    let same : history image deferred ≡ history image direct =
    c.methods_agree.ensures program_serves image list c.args.count c.code-code.ensures.valid c.code-code.ensures.words c.requires held in
    record {
      one_history = same;
      one_count = c.histories_tell_counts.ensures image c.code-code.ensures.valid deferred direct same;
    }
