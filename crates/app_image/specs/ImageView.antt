-- What the fields of an image mean, and what is true of them.
use Rattle.std.specs.Prelude.{◌≡◌}
use Rattle.app_image.specs.Image.{ImageRecord, kind_table, IsValidImage}
use Rattle.app_image.specs.Layout.{HasWords}
use Rattle.app_image.specs.declared.images.Image.TheInside.{Inside}

abbrev pub image_view : Inside → ImageRecord
image_view a = record {
  tasks = a.tasks.items;
  objects = a.objects.items;
  vectors = a.vectors.items;
  code = a.code.items;
  ram = a.ram.items;
  config = a.config;
}

-- the image is valid, its numbers are words, and its table of kinds is its own
pub record IsSound (a : Inside) : Type 0 where
  pub valid : IsValidImage (image_view a)
  pub words : HasWords (image_view a)
  pub kinds : a.kinds ≡ kind_table (image_view a)
