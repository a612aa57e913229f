-- `text_frames::number_first` meets its contract: so few digits are always a number. Assumes nothing.
use Rattle.std.proofs.Common.{◌≡◌, sym, ◌∙◌, take, true}
use Rattle.model.specs.Text.{number_first, digits_in, behind}
use Rattle.text_frames.proofs.Numbers.{digits_most, no_number, the_number}
use Rattle.text_frames.proofs.number_first.Goals as goal

pub split_at-requires : goal.split_at-requires
split_at-requires c = rw c.digits_in-n.ensures (digits_most c.args.t.now)

pub returns-in_err-decimal_of : goal.returns-in_err-decimal_of
returns-in_err-decimal_of c =
    let t = c.args.t.now in
    let h : number_first t ≡ true = rw c.digits_in-n.ensures at (sym c.make_number.ensures ∙ c.if-not-make_number.false) in
    let e : c.split_at.result.0.now ≡ take (digits_in t) t = rw c.digits_in-n.ensures at c.split_at.ensures.front in
    absurd (no_number t _ h e (sym c.decimal_of.ensures ∙ c.in_err-decimal_of.was))

pub returns : goal.returns
returns c =
    let t = c.args.t.now in
    let h : number_first t ≡ true = rw c.digits_in-n.ensures at (sym c.make_number.ensures ∙ c.if-not-make_number.false) in
    let e : c.split_at.result.0.now ≡ take (digits_in t) t = rw c.digits_in-n.ensures at c.split_at.ensures.front in
    let b : c.split_at.result.1.now ≡ behind t = rw c.digits_in-n.ensures at c.split_at.ensures.back in
    (h, the_number t _ h e (sym c.decimal_of.ensures ∙ c.in_ok-decimal_of.was), b)
