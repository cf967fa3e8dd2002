use Rattle.std.proofs.Common.{[], ◌∷◌, ◌++◌, refl, ap, ◌∙◌}
use Rattle.std.proofs.lemmas.List.{map-append}
use Rattle.lft_classes.specs.inner.{Built.{core, cores}, Shapes.tables}
use Rattle.lft_classes.proofs.making.Making.add_shape.Goals as goal

pub returns : goal.returns
returns c =
    let old = c.args.self.now.shapes.items in
    let shape = c.in_ok-shape.shape in
    record {
      adds = record {
        scopes = refl;
        main = c.in_ok-shape.ensures.main;
        number_is = c.len-number.ensures ∙ c.args.self.now.shapes.ok.0;
        fresh = core shape;
        shapes = ap cores c.in_ok-push.ensures.items ∙ map-append core old (shape ∷ []);
        is_of = c.in_ok-shape.ensures.class;
        built = c.in_ok-shape.ensures.built;
        knows = c.note.ensures;
        empty = ap tables c.in_ok-push.ensures.items ∙ map-append (λ s. s.children.items) old (shape ∷ []) ∙ ap (λ row. tables old ++ row ∷ []) c.in_ok-shape.ensures.empty;
      };
    }
