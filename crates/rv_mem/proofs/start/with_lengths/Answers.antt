use Rattle.std.proofs.Common.{rules, subst, sym, ◌∙◌, ◌++◌, ◌∷◌, ap, replicate}
use Rattle.std.specs.List.{AllByRecursion}
use Rattle.pn_types.specs.Images.{IsSegment}
use Rattle.rv_mem.specs.Start.{segment_parts, heap_at, heap_part, stack_at, stack_parts}
use Rattle.rv_mem.proofs.Starts.{filled_at, segment_step, heap_step, stack_step}
use Rattle.rv_mem.proofs.start.with_lengths.Goals as goal

pub segment_region-requires : goal.segment_region-requires
segment_region-requires c =
    filled_at c.as_slice-segments.result.now c.loop-segment.segment-index c.segment-item.result (subst (λ ss. AllByRecursion IsSegment ss) (sym c.as_slice-segments.ensures) c.requires.image.mapped) c.segment-item.is (search rules)

pub loop-segment-preserved : goal.loop-segment-preserved
loop-segment-preserved c =
    segment_step c.loop-segment.regions.items _ c.in_ok-segment_region.field-0 c.as_slice-segments.result.now c.loop-segment.segment-index c.segment-item.result c.in_ok-push.ensures.items c.in_ok-segment_region.ensures c.segment-item.is (search rules) ∙ c.loop-segment.invariant

pub loop-hart-init : goal.loop-hart-init
loop-hart-init c =
    heap_step c.loop-segment.regions.items _ c.in_ok-empty_region.field-0 c.as_slice-segments.result.now c.loop-segment.segment-index c.args.harts c.in_ok-push-2.ensures.items (c.in_ok-empty_region.ensures ∙ ap (λ len. (heap_at, replicate len 0)) c.requires.heap) (search rules) c.loop-segment.invariant
    ∙ ap (λ ss. segment_parts ss ++ heap_part ∷ stack_parts c.args.harts 0) c.as_slice-segments.ensures

pub loop-hart-preserved : goal.loop-hart-preserved
loop-hart-preserved c =
    stack_step c.loop-hart.regions.items _ c.in_ok-empty_region-2.field-0 c.args.harts c.loop-hart.hart (search rules) c.in_ok-push-3.ensures.items (c.in_ok-empty_region-2.ensures ∙ ap (λ len. (stack_at c.loop-hart.hart, replicate len 0)) c.requires.stack) ∙ c.loop-hart.invariant
