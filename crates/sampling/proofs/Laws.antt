-- From the parts of a sample to what it comes to. Assumes nothing.
use Prim.Native.Nat.{ℕ}
use mathlib.Core.Path.{◌≡◌, refl, ap, ◌∙◌}
use mathlib.Core.Bool.{Bool, true, false, and-false, true≢false}
use Rattle.std.specs.Prelude.{Option, Some, None}
use mathlib.Core.List.{List, [], map}
use lib.ListN.{length}
use Rattle.lists.specs.Tests.{any}
use Rattle.lists.specs.Numbers.{bits_number}
use Rattle.lists.proofs.Done.{length-mapi}
use Rattle.model.specs.declared.Inputs.{Inputs}
use Rattle.model.specs.declared.Line.{Line}
use Rattle.model.specs.declared.Module.{Module}
use Rattle.model.specs.declared.Notice.{Notice}
use Rattle.model.specs.declared.Output.{Output}
use Rattle.model.specs.State.{is_on, with_inputs, with_outputs}
use Rattle.model.specs.Samples.{edges, lines_sampled, inputs_sampled}
use Rattle.model.specs.Outputs.{pulsed}
use Rattle.model.specs.Notice.{noticed, notice_written}
use Rattle.model.specs.Calls.{sampled}
use Rattle.inputs.specs.declared.Edged.{Edged}
use Rattle.inputs.specs.declared.Sampled.{Sampled}
use Rattle.inputs.specs.Passes.{any_masked, stable_bits, edged_of, sampled_of}
use Rattle.inputs.proofs.Edges.{no_mask}
use Rattle.linking.specs.Links.{linked_by}
use Rattle.linking.proofs.Laws.{linked_law}
use Rattle.sampling.specs.declared.NoticeFrame.{NoticeFrame}
use Rattle.sampling.specs.Parts.{bytes_of, out_of}

-- without an edge no notice is due
unnoticed : (n : Notice) (es : List Bool) → any (λ b. b) es ≡ false → noticed n es ≡ false
unfolding noticed any_masked
unnoticed n es h = rw (no_mask n.mask es h) (and-false (is_on n))

as_many : (bits number : ℕ) (xs : List Line) → length (lines_sampled number bits xs) ≡ length xs
unfolding lines_sampled
as_many bits number xs = length-mapi _ xs

-- what two optional edges share, and that none is not some
module _ (x : Edged) where
  edge_in : Option Edged → Edged
  edge_in (Some y) = y
  edge_in None = x

  pub same_edge : (y : Edged) → Some x ≡ Some y → x ≡ y
  unfolding edge_in
  same_edge y e = ap edge_in e

is_some : Option Edged → Bool
is_some (Some y) = true
is_some None = false

pub not_none : (x : Edged) → Some x ≡ None → ⊥
unfolding is_some
not_none x e = true≢false (ap is_some e)

-- the notice of a sample that had these edges, or had none
pub notice_law : (address : ℕ) (n : Notice) (s : Sampled) (es : List Bool) (r : Option NoticeFrame)
    → (s.edges ≡ None → bytes_of r ≡ [])
    → ((e : Edged) (es : List Bool) (x : Inputs) → s.edges ≡ Some e → e.found ≡ bits_number es → e.states ≡ stable_bits x.lines → bytes_of r ≡ notice_written address n es x)
    → s.edges ≡ edged_of es s.inputs.lines → bytes_of r ≡ notice_written address n es s.inputs
unfolding notice_written
notice_law address n s es r quiet tell h = go (any (λ b. b) es) refl
  where
    go : (b : Bool) → any (λ b. b) es ≡ b → bytes_of r ≡ notice_written address n es s.inputs
    go true e = tell (record { found = bits_number es; states = stable_bits s.inputs.lines }) es s.inputs (rw e at h) refl refl
    go false e = quiet (rw e at h) ∙ rw (unnoticed n es e)

-- the state and the notice after a sample
pub out_law : (bits : ℕ) (m : Module) (s : Sampled) (os after : List Output) (r : Option NoticeFrame)
    → length m.inputs.lines ≡ 16
    → s ≡ sampled_of bits m.settings.sampling m.settings.modes m.inputs
    → os ≡ map pulsed m.outputs
    → after ≡ linked_by s.edges m.settings.links os
    → ((es : List Bool) → s.edges ≡ edged_of es s.inputs.lines → bytes_of r ≡ notice_written m.spinel.address m.settings.notice es s.inputs)
    → out_of (record { after = with_outputs (with_inputs m s.inputs) after; notice = r }) ≡ sampled bits m
unfolding sampled sampled_of inputs_sampled
out_law bits m s os after r long e q drive tell =
    let was = m.inputs.lines in
    let now = lines_sampled m.settings.sampling bits was in
    let long-now : length now ≡ 16 = as_many bits m.settings.sampling was ∙ long in
    let es : s.edges ≡ edged_of (edges was now) now = ap (λ (x : Sampled). x.edges) e in
    let x : s.inputs ≡ inputs_sampled bits m.settings m.inputs = ap (λ (y : Sampled). y.inputs) e in
    rw (tell (edges was now) (rw x es), drive, es, linked_law was now long long-now m.settings.links os, q, x)
