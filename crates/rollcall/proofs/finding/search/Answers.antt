-- Tried without: the check does not find what the closure answers at each place, nor with the laws of the search named.
use Rattle.std.proofs.Common.{rules, take}
use Rattle.std.proofs.lemmas.List.Sorted.{IsPartitionPoint-from_clause}
use Rattle.rollcall_table.proofs.Laws.{is_low, searchable, search-is}
use Rattle.rollcall.proofs.finding.search.Goals as goal

pub returns : goal.returns
returns c =
    let t = c.args.table.now in
    let rs = t.records.now in
    let qs = take t.count t.places.now in
    let a = c.args.address in
    let point = IsPartitionPoint-from_clause (is_low rs a) qs _ c.partition_point.ensures.partitioned (searchable rs a qs c.requires.ordered) (λ x r q k. search rules) in
    search-is rs a qs c.requires.ordered _ c.partition_point.ensures.bound point
