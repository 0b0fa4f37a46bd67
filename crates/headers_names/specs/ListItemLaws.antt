-- An empty item is no field name and no method.
use Rattle.std.specs.Prelude.{◌≡◌, [], None, refl}
use Rattle.headers_names.specs.ListItem.{name_of, method_of}

pub name_of-empty : name_of [] ≡ None
unfolding name_of
name_of-empty = refl

pub method_of-empty : method_of [] ≡ None
unfolding method_of
method_of-empty = refl
