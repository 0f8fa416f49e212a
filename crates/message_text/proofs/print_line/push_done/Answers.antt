use Rattle.std.proofs.Common.{[], codes, refl}
use Rattle.message_text.specs.declared.token.Token.TheVariants.{Done}
use Rattle.message_text.proofs.SpacedLine.{on_ok, line_of_fields}
use Rattle.message_text.proofs.print_line.push_done.Goals as goal

pub returns : goal.returns
returns c = on_ok c.push_bytes.result c.push_bytes.ensures (λ e. line_of_fields (codes "EINDE") [] Done c.args.text.now c.push_bytes.new.text refl e)
