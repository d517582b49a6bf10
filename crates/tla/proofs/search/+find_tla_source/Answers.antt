use Rattle.std.proofs.Common.{ℕ, ◌<◌, ◌≤◌, List, length, Some, None, sym, refl, ap, ◌∙◌, subst, arith}
use Rattle.std.proofs.lemmas.List.{drop_all}
use Rattle.source.specs.Meaning.{count_of}
use Rattle.tla.specs.Awaiting.{has_await}
use Rattle.tla.specs.Search.{imports_of, Searches, ends, passes, stops, finds, goes_on}
use Rattle.tla.proofs.Followed.{all_followed, imports_left, import_inside}
use Rattle.tla.proofs.Searched.{fresh, enter_long, enter_fewer, searched_fewer, searched_found, searched_on}
use Rattle.tla.proofs.search.+find_tla_source.Goals as goal

pub returns-then-entered-m : goal.returns-then-entered-m
returns-then-entered-m g t c = passes c.if-entered-m.true ends

pub returns-then-has_await : goal.returns-then-has_await
returns-then-has_await g t c = stops c.if-entered-m.false (ap has_await (sym c.module.ensures) ∙ sym c.if-has_await.ensures)

pub find_tla_source-requires : goal.find_tla_source-requires
find_tla_source-requires g t c κs within =
    let w = g.S.ModuleSource.meaning c.args.imports.now.source.now in
    let m = c.args.m in
    let e = c.args.entered.now in
    let lt : m < length e = omega (arith, c.requires.place, c.requires.entered) in
    let falls : fresh c.loop-arrow.entered < t = omega (arith, c.loop-arrow.invariant.0, enter_fewer e m lt c.if-entered-m.false, c.decreases) in
    let long : count_of w ≤ length c.loop-arrow.entered = omega (arith, c.requires.entered, c.loop-arrow.auto.entered, enter_long e m) in
    let inside = import_inside w m c.of-arrow-items.result.now c.of-arrow-items.ensures c.loop-arrow.arrow-index c.loop-arrow-test.true (g.S.ModuleSource.proper c.args.imports.now.source.now) (g.met.S.Linkable.targets c.args.imports.now.source.now) in
    (falls, (within, (long, inside)))

pub returns-in-Some : goal.returns-in-Some
returns-in-Some g t c =
    let w = g.S.ModuleSource.meaning c.args.imports.now.source.now in
    let left = imports_left w c.args.m c.of-arrow-items.result.now c.of-arrow-items.ensures c.loop-arrow.arrow-index c.loop-arrow-test.true in
    let s = c.in-Some.found in
    let last = c.find_tla_source.new.entered in
    finds c.if-entered-m.false (ap has_await (sym c.module.ensures) ∙ sym c.if-has_await.ensures)
    (c.loop-arrow.invariant.1 (Some s) last (subst (λ (ts : List ℕ). Searches w c.loop-arrow.entered ts (Some s) last) (sym left) (searched_found w s _ refl c.in-Some.ensures)))

pub loop-arrow-preserved : goal.loop-arrow-preserved
loop-arrow-preserved g t c =
    let w = g.S.ModuleSource.meaning c.args.imports.now.source.now in
    let left = imports_left w c.args.m c.of-arrow-items.result.now c.of-arrow-items.ensures c.loop-arrow.arrow-index c.loop-arrow-test.true in
    let here = c.in_default.ensures in (
      omega (arith, c.loop-arrow.invariant.0, searched_fewer w here),
      λ r last d. c.loop-arrow.invariant.1 r last (subst (λ (ts : List ℕ). Searches w c.loop-arrow.entered ts r last) (sym left) (searched_on w refl here d)),
    )

pub returns : goal.returns
returns g t c =
    let w = g.S.ModuleSource.meaning c.args.imports.now.source.now in
    let e = c.loop-arrow.entered in
    let i = c.loop-arrow.arrow-index in
    let done : length (imports_of w c.args.m) ≤ i = all_followed w c.args.m c.of-arrow-items.result.now c.of-arrow-items.ensures i (omega (arith, c.loop-arrow-test.false)) in
    goes_on c.if-entered-m.false (ap has_await (sym c.module.ensures) ∙ sym c.if-has_await.ensures)
    (c.loop-arrow.invariant.1 None e (subst (λ (ts : List ℕ). Searches w e ts None e) (sym (drop_all i (imports_of w c.args.m) done)) ends))
    ends
