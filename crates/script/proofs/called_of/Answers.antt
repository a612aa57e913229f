-- `script::called_of` meets its contract. Assumes nothing.
use mathlib.Core.Path.{◌∙◌}
use borrow.Author.Rules.{rules}
use Rattle.script.proofs.Sames.{same_is}
use Rattle.script.proofs.Calls.{called_sample, called_toggle, called_temperature, called_spinel, called_modbus, called_text, called_other}
use Rattle.script.proofs.called_of.Goals as goal

pub returns-then-eq : goal.returns-then-eq
returns-then-eq c = c.sample_of.ensures ∙ called_sample _ _ _ (same_is _ c.as_slice.ensures c.if-eq.ensures)

pub returns-then-eq-2 : goal.returns-then-eq-2
returns-then-eq-2 c =
    c.toggle_of.ensures ∙ called_toggle _ _ _ (same_is _ c.as_slice.ensures c.if-eq.ensures) (same_is _ c.as_slice-2.ensures c.if-eq-2.ensures)

pub returns-then-eq-3 : goal.returns-then-eq-3
returns-then-eq-3 c =
    c.temperature_of.ensures ∙ called_temperature _ _ _ (same_is _ c.as_slice.ensures c.if-eq.ensures) (same_is _ c.as_slice-2.ensures c.if-eq-2.ensures) (same_is _ c.as_slice-3.ensures c.if-eq-3.ensures)

pub returns-then-eq-4 : goal.returns-then-eq-4
returns-then-eq-4 c =
    search rules ∙ c.frame_of.ensures 4 ∙ called_spinel _ _ _ (same_is _ c.as_slice.ensures c.if-eq.ensures) (same_is _ c.as_slice-2.ensures c.if-eq-2.ensures) (same_is _ c.as_slice-3.ensures c.if-eq-3.ensures) (same_is _ c.as_slice-4.ensures c.if-eq-4.ensures)

pub returns-then-eq-5 : goal.returns-then-eq-5
returns-then-eq-5 c =
    search rules ∙ c.frame_of-then-eq-5.ensures 5 ∙ called_modbus _ _ _ (same_is _ c.as_slice.ensures c.if-eq.ensures) (same_is _ c.as_slice-2.ensures c.if-eq-2.ensures) (same_is _ c.as_slice-3.ensures c.if-eq-3.ensures) (same_is _ c.as_slice-4.ensures c.if-eq-4.ensures) (same_is _ c.as_slice-5.ensures c.if-eq-5.ensures)

pub returns-then-eq-6 : goal.returns-then-eq-6
returns-then-eq-6 c =
    search rules ∙ c.typed_of.ensures ∙ called_text _ _ _ (same_is _ c.as_slice.ensures c.if-eq.ensures) (same_is _ c.as_slice-2.ensures c.if-eq-2.ensures) (same_is _ c.as_slice-3.ensures c.if-eq-3.ensures) (same_is _ c.as_slice-4.ensures c.if-eq-4.ensures) (same_is _ c.as_slice-5.ensures c.if-eq-5.ensures) (same_is _ c.as_slice-6.ensures c.if-eq-6.ensures)

pub returns : goal.returns
returns c = called_other _ _ _ (same_is _ c.as_slice.ensures c.if-eq.ensures) (same_is _ c.as_slice-2.ensures c.if-eq-2.ensures) (same_is _ c.as_slice-3.ensures c.if-eq-3.ensures) (same_is _ c.as_slice-4.ensures c.if-eq-4.ensures) (same_is _ c.as_slice-5.ensures c.if-eq-5.ensures) (same_is _ c.as_slice-6.ensures c.if-eq-6.ensures)
