mod WatchLaws
