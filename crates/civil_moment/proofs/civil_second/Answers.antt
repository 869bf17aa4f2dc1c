use Rattle.std.proofs.Common.{◌≡◌, ◌∙◌, Some, ap, sym, pos, to_z, w8, w16, arith}
use Rattle.std.proofs.lemmas.Int.{ints}
use Rattle.jiff_core.specs.Calendar.{days_from_civil}
use Rattle.jiff_core.specs.Date.{epoch_day}
use Rattle.civil_moment.proofs.Forms.{made_value, no_second, same_pos, some_second}
use Rattle.civil_moment.proofs.civil_second.Goals as goal

pub returns-in_err-civil : goal.returns-in_err-civil
returns-in_err-civil c =
    let year : to_z w16 c.args.year ≡ pos c.args.year = omega (arith, ints) in
    let month : to_z w8 c.args.month ≡ pos c.args.month = omega (arith, ints) in
    let day : to_z w8 c.args.day ≡ pos c.args.day = omega (arith, ints) in
    let hour : to_z w8 c.args.hour ≡ pos c.args.hour = omega (arith, ints) in
    let minute : to_z w8 c.args.minute ≡ pos c.args.minute = omega (arith, ints) in
    let second : to_z w8 c.args.second ≡ pos c.args.second = omega (arith, ints) in
    let succeeds = rw (year, month, day, hour, minute, second) at c.new.ensures.succeeds in
    c.from_residual.ensures ∙ sym (no_second c.new.result c.args.year c.args.month c.args.day c.args.hour c.args.minute c.args.second c.requires.year succeeds (sym c.ok.ensures.value ∙ c.in_err-civil.was))

pub returns : goal.returns
returns c =
    let year : to_z w16 c.args.year ≡ pos c.args.year = omega (arith, ints) in
    let month : to_z w8 c.args.month ≡ pos c.args.month = omega (arith, ints) in
    let day : to_z w8 c.args.day ≡ pos c.args.day = omega (arith, ints) in
    let hour : to_z w8 c.args.hour ≡ pos c.args.hour = omega (arith, ints) in
    let minute : to_z w8 c.args.minute ≡ pos c.args.minute = omega (arith, ints) in
    let second : to_z w8 c.args.second ≡ pos c.args.second = omega (arith, ints) in
    let succeeds = rw (year, month, day, hour, minute, second) at c.new.ensures.succeeds in
    let made = sym c.ok.ensures.value ∙ c.in_ok-civil.was in
    let parts = made_value c.new.result c.in_ok-civil.civil _ c.new.ensures.value made in
    let same_month = same_pos _ _ (parts.0.1 ∙ month) in
    let same_day = same_pos _ _ (parts.0.2 ∙ day) in
    let same_year = parts.0.0 ∙ year in
    let number : c.to_unix_epoch_day-day.result ≡ days_from_civil (pos c.args.year) c.args.month c.args.day =
    c.to_unix_epoch_day-day.ensures.value ∙ ap epoch_day (c.to_plain.ensures ∙ c.date.ensures) ∙ (λ i. days_from_civil (same_year i) (same_month i) (same_day i)) in
    ap Some (omega (arith, ints, number, c.to_unix_epoch_day-day.ensures.bound, c.from.ensures, c.from-2.ensures, c.from-3.ensures, c.from-4.ensures, c.from-5.ensures))
    ∙ sym (some_second c.new.result c.in_ok-civil.civil c.args.year c.args.month c.args.day c.args.hour c.args.minute c.args.second succeeds made)
