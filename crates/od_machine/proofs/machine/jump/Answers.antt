use Rattle.std.proofs.Common.{◌≡◌, ℕ, ◌+◌, ◌≤◌, ◌<◌, ◌++◌, List, length, get_or, map, sym, ◌∙◌, ap, subst, inl, inr, arith}
use Rattle.std.specs.Prelude.{reverse}
use Rattle.od_machine.specs.Machine.{State}
use Rattle.od_machine.specs.Search.{thread}
use Rattle.od_machine.specs.Spans.{Passed, Stacked, AreFrom}
use Rattle.od_machine.specs.declared.spans.SpanEntry.{SpanEntry}
use Rattle.od_machine.proofs.Entries.{same_item, passed_left, passed_taken, none_left, none_behind, stacked_taken, targets_all}
use Rattle.od_machine.proofs.machine.jump.Goals as goal
use Rattle.od_matching.specs.Matching.Scan.{is_span_in}

-- what stands in for an entry that is not there
abbrev no_entry : SpanEntry
no_entry = record { start = 0; end = 0; number = 0 }

pub returns-then-entry-at-clause-stack : goal.returns-then-entry-at-clause-stack
returns-then-entry-at-clause-stack c =
    let labels = c.args.labels.now in
    let near = c.entries_from-near.result.now in
    let i = c.loop-entry.entry-index in
    let inside : i < length near = omega arith in
    let e : SpanEntry = get_or near i no_entry in
    let from : AreFrom labels c.args.at near = c.entries_from-near.ensures labels c.requires.index.lists in
    let inv = c.loop-entry.invariant in
    inv.1
    ∙ ap (λ (z : List State). map (thread c.args.events) z ++ reverse c.args.threads.now.items)
    (sym (targets_all (is_span_in labels c.args.name.now) (c.args.pc + 1) c.args.at c.loop-entry.reach c.args.tokens inv.2 inv.3
    (λ j far le. none_behind labels c.args.name.now c.args.at c.args.tokens near from i c.loop-entry.reach e inside (same_item near i no_entry e inside) c.if-entry-at.true j inv.0 far le)))

pub loop-entry-preserved : goal.loop-entry-preserved
loop-entry-preserved c =
    let labels = c.args.labels.now in
    let name = c.args.name.now in
    let near = c.entries_from-near.result.now in
    let i = c.loop-entry.entry-index in
    let inside : i < length near = omega arith in
    let e : SpanEntry = get_or near i no_entry in
    let is : e ≡ get_or near i e = same_item near i no_entry e inside in
    let from : AreFrom labels c.args.at near = c.entries_from-near.ensures labels c.requires.index.lists in
    let inv = c.loop-entry.invariant in
    let few = c.in_ok-reach.ensures.few in
    let low : c.args.at ≤ c.loop-entry.reach = inv.2 in
    let high : c.loop-entry.reach ≤ c.args.tokens = inv.3 in
    elim c.in_ok-reach.ensures.taken [
      | inl taken ↦
          let farther : c.loop-entry.reach < e.end = taken.farther in
          let within : e.end ≤ c.args.tokens = taken.within in (
            subst (λ (z : ℕ). Passed labels name c.args.at c.args.tokens near (i + 1) z) (sym taken.goes_to)
                (passed_taken labels name c.args.at c.args.tokens near i c.loop-entry.reach e inside is farther inv.0),
            subst (λ (z : ℕ). Stacked labels name (c.args.pc + 1) c.args.events c.args.at z c.args.threads.now.items c.take_span.new.threads.items) (sym taken.goes_to)
                (stacked_taken labels name c.args.at c.args.tokens near from (c.args.pc + 1) c.args.events i c.loop-entry.reach c.in_ok-reach.reach e c.args.threads.now.items
                c.loop-entry.threads.items c.take_span.new.threads.items inside is c.if-entry-at.false low inv.0 taken inv.1),
            omega (arith, taken.goes_to),
            omega (arith, taken.goes_to),
            omega (arith, taken.goes_to, few, inv.4),
          )
      | inr left ↦ (
        subst (λ (z : ℕ). Passed labels name c.args.at c.args.tokens near (i + 1) z) (sym left.goes_to)
            (passed_left labels name c.args.at c.args.tokens near i c.loop-entry.reach e inside is left.named inv.0),
        subst (λ (z : ℕ). Stacked labels name (c.args.pc + 1) c.args.events c.args.at z c.args.threads.now.items c.take_span.new.threads.items) (sym left.goes_to)
            (ap reverse left.threads ∙ inv.1),
        omega (arith, left.goes_to),
        omega (arith, left.goes_to),
        omega (arith, left.goes_to, few, inv.4),
      )
    ]

pub returns-clause-stack : goal.returns-clause-stack
returns-clause-stack c =
    let labels = c.args.labels.now in
    let near = c.entries_from-near.result.now in
    let from : AreFrom labels c.args.at near = c.entries_from-near.ensures labels c.requires.index.lists in
    let inv = c.loop-entry.invariant in
    inv.1
    ∙ ap (λ (z : List State). map (thread c.args.events) z ++ reverse c.args.threads.now.items)
    (sym (targets_all (is_span_in labels c.args.name.now) (c.args.pc + 1) c.args.at c.loop-entry.reach c.args.tokens inv.2 inv.3
    (λ j far le. none_left labels c.args.name.now c.args.at c.args.tokens near from c.loop-entry.entry-index c.loop-entry.reach j (omega arith) inv.0 far le)))
