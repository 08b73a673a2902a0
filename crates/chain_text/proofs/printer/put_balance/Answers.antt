-- Piece by piece.
use Rattle.chain_text.proofs.PrinterLemmas.{balance_printed}
use Rattle.chain_text.proofs.printer.put_balance.Goals as goal

pub returns : goal.returns
returns c =
    balance_printed c.args.out.now.items c.extend_from_slice.new.self.items c.put_address.new.out.items c.push.new.self.items c.put_number.new.out.items c.push-2.new.self.items c.args.address.now c.args.amount
    c.if-amount-eq0.false c.in_ok-extend_from_slice.ensures.items c.in_ok-put_address.ensures c.in_ok-push.ensures.items c.in_ok-put_number.ensures c.in_ok-push-2.ensures.items
