use Rattle.std.proofs.Common.{◌∙◌, ap, subst, sym, ◌++◌, List, ℕ}
use Rattle.std.proofs.lemmas.Result.{on_ok_weaker}
use Rattle.message_text.specs.Printable.{IsPrintable}
use Rattle.version_history.specs.Moments.{contents}
use Rattle.moment_query.specs.Exports.{export_from}
use Rattle.moment_query.proofs.Exported.{export_printable, pushes}
use Rattle.moment_query.proofs.export.push_export.Goals as goal

pub print_message-requires : goal.print_message-requires
print_message-requires c = record {
  printable = subst IsPrintable (sym c.in_ok-message.ensures)
      (export_printable (contents c.args.areas.now) (contents c.args.versions.now) c.args.moment c.args.holder c.requires.shapes
      c.requires.items);
}

pub returns : goal.returns
returns c =
    let old = c.args.text.now in
    let message = export_from (contents c.args.areas.now) (contents c.args.versions.now) c.args.moment c.args.holder in
    on_ok_weaker _ (λ e. pushes c.in_ok-message.message message c.in_ok-message.ensures c.in_ok-printed.ensures
    (e ∙ ap (λ (l : List ℕ). old ++ l) c.as_slice.ensures)) c.push_bytes.ensures
