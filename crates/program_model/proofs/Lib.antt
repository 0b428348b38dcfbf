mod Generated
