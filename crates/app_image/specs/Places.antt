-- The header of a binary image, and where its parts begin.
use Rattle.std.specs.Prelude.{ℕ, ◌+◌, ◌*◌, ◌==◌, nat_le, if◌then◌else◌, List, Bool, ◌&&◌, ◌||◌}
use Rattle.app_image.specs.Fields.{half_at, word_at}
use Rattle.app_image.specs.declared.header.Header.{Header}

-- the version, and how many of each part follow
abbrev pub header_of : List ℕ → Header
header_of bytes = record {
  version = half_at bytes 4;
  code = word_at bytes 8;
  ram = word_at bytes 12;
  tasks = half_at bytes 16;
  objects = half_at bytes 18;
  vectors = half_at bytes 20;
}

-- the two fields of a header that must be 0
abbrev pub has_zeros : List ℕ → Bool
has_zeros bytes = (half_at bytes 6 == 0) && (half_at bytes 22 == 0)

-- a version that is known, and counts within their limits
abbrev pub is_known : Header → Bool
is_known h =
    ((h.version == 1) || (h.version == 2)) && (nat_le h.code 16384 && (nat_le h.ram 65536 && (nat_le h.tasks 60 && (nat_le h.objects 64 && nat_le h.vectors 32))))

-- how many settings a version has
abbrev pub settings_count : ℕ → ℕ
settings_count version = if version == 1 then 9 else 10

-- where each part begins: the settings at 24, then the tasks, objects, vectors, code and RAM
abbrev pub tasks_place : Header → ℕ
tasks_place h = 24 + 4 * settings_count h.version

abbrev pub objects_place : Header → ℕ
objects_place h = tasks_place h + 36 * h.tasks

abbrev pub vectors_place : Header → ℕ
vectors_place h = objects_place h + 36 * h.objects

abbrev pub code_place : Header → ℕ
code_place h = vectors_place h + 16 * h.vectors

abbrev pub ram_place : Header → ℕ
ram_place h = code_place h + 4 * h.code

-- how many bytes the image has
abbrev pub image_size : Header → ℕ
image_size h = ram_place h + 4 * h.ram
