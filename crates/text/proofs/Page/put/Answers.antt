-- What there is room for fits.
use Rattle.std.proofs.Common.{◌≡◌, ◌+◌, ◌∙◌, ◌++◌, sym, ap, arith, length, length-take, take}
use Rattle.text.specs.ShownLaws.{puts_room, on_fine}
use Rattle.text.proofs.Page.put.Goals as goal

pub returns : goal.returns
returns c =
    let bytes = c.args.bytes.now in
    let left = c.remaining_capacity.result in
    let room = c.min-room.result in
    let all : left + length c.self.inside.0.items ≡ 4096 = c.remaining_capacity.ensures in
    let e = c.try_extend_from_slice-fits.ensures in
    let is = on_fine c.try_extend_from_slice-fits.result (e.variant.1 (omega (arith, all, c.min-room.ensures, length-take room bytes))) e.ok in
    puts_room c.args.self.now bytes c.try_extend_from_slice-fits.new.self.items left room (ap (λ l. left + length l) (sym c.self.view_is) ∙ all) c.min-room.ensures (is ∙ ap (λ l. l ++ take room bytes) c.self.view_is)
