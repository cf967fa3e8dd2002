use Rattle.lft_lists.proofs.Members.{mem_contains}
use Rattle.lft_same.proofs.ExpandedLemmas.{Crossed.places_crossed, Links.{joined_links, whole_links}, Only.only_flat, Sameness.{core_law, same_law}}
use Rattle.lft_same.proofs.expanded.laws_of_programs.Goals as goal

pub returns : goal.returns
returns c = record {
  core = core_law;
  only = only_flat;
  same = same_law;
  joined = λ path x delay thing left right broadcast cs joins from to. joined_links path x delay thing left right broadcast cs joins (λ r m. from r (mem_contains r left m)) (λ r m. to r (mem_contains r right m));
  whole = λ path x delay thing left right from to. whole_links path x delay thing left right (λ r m. from r (mem_contains r left m)) (λ r m. to r (mem_contains r right m));
  places = places_crossed;
}
